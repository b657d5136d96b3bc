-- What several proofs of this crate share.
pub mod Stores
pub mod Steps
pub mod Whole
