pub mod Workable
pub mod WorkLaws
pub mod Feeding
pub mod Plainly
pub mod Going
pub mod Moves
pub mod Held
