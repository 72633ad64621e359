pub mod Codes
pub mod Effects
pub mod Machine
pub mod Reading
pub mod Validity
