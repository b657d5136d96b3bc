-- Lists of offered steps put end to end, and the rules opened for computing.
pub mod Lists
pub mod Computed
