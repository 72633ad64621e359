pub mod Tables
pub mod LateLinks
pub mod Lists
pub mod Finding
pub mod Unless
pub mod Told
pub mod InsideSteps
pub mod Classed
