-- The laws of a walk along a list.
pub mod Along
pub mod Loops
