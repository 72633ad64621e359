pub mod Heads
pub mod Reversed
pub mod Merged
pub mod Steps
pub mod Dealt
