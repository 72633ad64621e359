pub mod Getting
pub mod Pushing
