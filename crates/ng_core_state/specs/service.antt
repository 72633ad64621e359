pub mod Ports
pub mod Room
pub mod Leaving
pub mod Front
pub mod Followers
pub mod Work
