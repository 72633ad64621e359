pub mod Decoding
pub mod Headers
pub mod Names
