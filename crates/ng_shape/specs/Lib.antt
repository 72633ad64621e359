pub mod Shape
pub mod Sound
pub mod Values
pub mod Layout
pub mod Decoding
pub mod Following
pub mod Canonical
pub mod Laws
