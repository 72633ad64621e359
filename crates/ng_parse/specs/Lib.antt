pub mod Ascii
pub mod Tokens
pub mod Faults
pub mod Counts
pub mod Reading
pub mod Printing
pub mod Texts
