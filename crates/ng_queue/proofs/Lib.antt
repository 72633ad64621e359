pub mod ScanLemmas
pub mod OrderLemmas
pub mod TakeableLemmas
pub mod TurnLemmas
pub mod QueuesLemmas
pub mod BlankLemmas
pub mod Sendable
