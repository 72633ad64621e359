pub mod Splits
pub mod Events
pub mod Written
pub mod Fronts
pub mod ReadBack
