mod Reading
mod Refusals
mod Targets
mod Lists
pub mod Places
mod States
mod Replies
