pub mod lookup
pub mod node
pub mod Form
pub mod Way
