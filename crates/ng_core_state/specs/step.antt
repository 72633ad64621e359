pub mod Applied
pub mod Boxes
pub mod Steps
pub mod Changed
