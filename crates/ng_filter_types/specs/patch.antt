pub mod Operations
pub mod State
