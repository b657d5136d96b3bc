-- What a reader must believe: what an engine is, and what it makes of a list of offered steps.
pub mod Engines
