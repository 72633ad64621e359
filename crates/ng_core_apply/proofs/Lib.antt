pub mod NodesStay
pub mod AtHands
