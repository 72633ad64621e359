pub mod hooks
pub mod NodeEntry
pub mod FirstOfKind
pub mod Topology
pub mod NodePlaces
pub mod NameIndex
pub mod OfWorld
pub mod Soundness
