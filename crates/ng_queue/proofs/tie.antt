pub mod SortedItems
pub mod OfQueues
pub mod Heads
pub mod OnceTaken
pub mod Leaving
