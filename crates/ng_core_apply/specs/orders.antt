pub mod Found
pub mod Asked
pub mod Refusals
pub mod Orders
pub mod Inside
pub mod Classes
