pub mod Appends
pub mod Lines
