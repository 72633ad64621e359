pub mod Merge
pub mod Best
pub mod Inputs
pub mod Early
pub mod Dealing
pub mod Examples
