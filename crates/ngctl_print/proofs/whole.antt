pub mod LineByLine
pub mod Entries
pub mod InOrder
pub mod Pieces
