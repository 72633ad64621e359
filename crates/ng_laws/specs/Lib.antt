pub mod answers
pub mod printable
pub mod still_graph
