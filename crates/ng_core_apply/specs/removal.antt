pub mod Drops
pub mod Removals
