-- The laws that stand beside the functions' own proofs.
pub mod Laws
pub mod Tells
