pub mod Filters
pub mod State
