pub mod Hosts
pub mod Node
pub mod Standing
