-- What a walk along a list keeps.
pub mod Walks
