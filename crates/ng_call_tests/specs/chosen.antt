pub mod Fit
pub mod Stock
