pub mod Addresses
pub mod LinkLists
pub mod Sound
