-- That what is written is read back.
pub mod Back
