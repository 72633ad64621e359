pub mod Format
pub mod Heads
pub mod Laws
pub mod Reading
pub mod Spelling
pub mod Writing
