pub mod Writing
pub mod Ending
pub mod Runs
