pub mod simple
pub mod tee
pub mod edge
