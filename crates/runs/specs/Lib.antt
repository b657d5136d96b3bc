-- What a reader must believe: runs that meet the bounds of the demands.
pub mod ShortRuns
