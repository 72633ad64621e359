pub mod Fuelled
pub mod Ethers
pub mod Inward
pub mod Staying
pub mod Stayed
pub mod Stepped
pub mod Placed
pub mod Bagged
