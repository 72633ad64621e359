pub mod Room
pub mod Holds
