pub mod counter
pub mod Commands
pub mod Examples
pub mod TypeCommands
pub mod TypeExamples
pub mod DeskExamples
pub mod SpreadExamples
