pub mod Counts
pub mod Lists
pub mod Sorts
pub mod Rows
pub mod Each
pub mod Behaves
