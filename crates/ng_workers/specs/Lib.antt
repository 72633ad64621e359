pub mod pool
pub mod Desks
pub mod Driving
pub mod SetUp
pub mod Passes
pub mod Hands
pub mod Ending
