pub mod step
pub mod service
pub mod Lent
pub mod Stands
pub mod Room
pub mod Handed
