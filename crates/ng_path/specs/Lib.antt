pub mod Segments
pub mod Grammar
pub mod Faults
pub mod Address
