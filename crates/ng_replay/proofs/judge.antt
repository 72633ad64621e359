pub mod Parts
pub mod Verdicts
pub mod Followed
pub mod Refusing
pub mod Ending
pub mod Seats
pub mod Whole
