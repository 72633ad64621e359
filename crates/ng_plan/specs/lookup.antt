pub mod ByName
pub mod Filters
pub mod NameMap
pub mod Order
pub mod Places
pub mod Table
