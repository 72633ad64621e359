pub mod Printing
pub mod Rows
pub mod Lines
