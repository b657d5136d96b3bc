-- What opening does to new records.
pub mod Opens
