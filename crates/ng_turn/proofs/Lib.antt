pub mod Lists
pub mod Views
pub mod Steps
pub mod Passes
pub mod Sendable
