pub mod kept
pub mod Journal
pub mod Reading
pub mod Laws
pub mod Fronts
