pub mod bpf
pub mod patch
pub mod Addresses
pub mod Counts
pub mod Filters
pub mod State
