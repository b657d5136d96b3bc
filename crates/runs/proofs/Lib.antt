-- The runs of specs/, computed.
pub mod Rounds
pub mod ShortRuns
