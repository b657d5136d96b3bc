-- What a reader must believe: the form of one record.
pub mod Form
