pub mod Any
pub mod Stocked
