pub mod Fields
pub mod Layout
pub mod Numbers
pub mod Message
pub mod Laws
