pub mod Verdict
pub mod Following
pub mod Laws
