pub mod Met
pub mod Following
pub mod Weight
