pub mod CountsOfWorld
pub mod LowCounts
pub mod Refusals
pub mod Dropping
pub mod NumberLemmas
