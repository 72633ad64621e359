pub mod Homes
pub mod AppliedItems
pub mod MadeChanges
pub mod ByLink
pub mod Stepping
pub mod ChangedNodes
pub mod Sprouted
