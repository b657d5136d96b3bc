-- What a reader must believe: what a line means.
pub mod Frames
