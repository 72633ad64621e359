pub mod whole
pub mod listing
pub mod Dump
pub mod Text
pub mod Prints
pub mod Ports
