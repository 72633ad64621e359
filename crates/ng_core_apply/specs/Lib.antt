pub mod orders
pub mod removal
pub mod AtHand
