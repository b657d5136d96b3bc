-- What a reader must believe: what a run writes.
pub mod Session
