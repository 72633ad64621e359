pub mod Counter
pub mod Passes
