pub mod Growing
pub mod Driven
pub mod Holdings
pub mod Rows
pub mod OwnEvents
pub mod EndedRuns
pub mod WholeRuns
pub mod PartJournals
