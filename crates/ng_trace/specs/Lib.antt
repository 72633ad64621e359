pub mod Watched
pub mod Endings
pub mod Watch
pub mod Seen
pub mod Arrivals
pub mod Text
pub mod Trace
