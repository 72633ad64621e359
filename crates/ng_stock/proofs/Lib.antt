pub mod Lists
pub mod Suffices
