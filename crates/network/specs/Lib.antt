-- What a reader must believe: a network by value.
pub mod Network
