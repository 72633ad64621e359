pub mod Mapped
pub mod PortLists
pub mod Cuts
