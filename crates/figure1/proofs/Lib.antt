-- What holds of the program of Figure 1, and what its proofs share.
pub mod Sums
pub mod Enabled
pub mod Errands
pub mod Frame
pub mod Counting
pub mod Order
pub mod Reached
pub mod Theorems
pub mod Slots
pub mod Runs
pub mod Overtaking
