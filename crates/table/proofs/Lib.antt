-- What several proofs of this crate share, and that a step keeps the form.
pub mod InTable
pub mod Leaves
pub mod Unchanged
pub mod Answers
pub mod Heads
pub mod Wires
pub mod Fits
pub mod Records
pub mod Kept
pub mod Holders
