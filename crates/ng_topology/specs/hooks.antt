pub mod Hooks
