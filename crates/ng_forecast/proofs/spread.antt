pub mod Ways
pub mod Walking
pub mod Linked
