-- What a reader must believe: the seven rows, and the refusals that come before them.
pub mod Rows
