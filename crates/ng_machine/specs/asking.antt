pub mod Bytes
pub mod Orders
