pub mod Following
pub mod Retired
pub mod Rooms
pub mod Others
pub mod Waiting
pub mod AskedPeers
pub mod Bypassed
pub mod Dropped
