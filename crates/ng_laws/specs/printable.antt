pub mod Printable
pub mod Scripts
