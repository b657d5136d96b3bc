-- What a reader must believe: the statements of demands 2 and 3, what they shut out, the starred cases, what the bench never writes, one outcome for each promise.
pub mod Demands
pub mod Useless
pub mod Cases
pub mod OneOutcome
pub mod Bench
