pub mod Prefixes
pub mod Moves
pub mod Changes
pub mod Anew
