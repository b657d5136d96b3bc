-- Laws of the scan over the cells of a record.
pub mod Scans
