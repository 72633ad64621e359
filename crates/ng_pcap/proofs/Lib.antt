pub mod Found
pub mod Heads
pub mod Packets
pub mod Spelled
pub mod Whole
pub mod Written
pub mod Kept
