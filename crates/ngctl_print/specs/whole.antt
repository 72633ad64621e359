pub mod Commands
pub mod Help
pub mod Answers
pub mod Told
pub mod Pieces
pub mod Text
pub mod Captures
