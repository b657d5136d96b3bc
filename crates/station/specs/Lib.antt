-- What a reader must believe: the names of places and codes, which stations a step names, one setter for each field of a record.
pub mod Names
pub mod Stations
pub mod Setters
pub mod Places
pub mod Codes
pub mod Counts
