pub mod Words
pub mod Call
pub mod Ends
pub mod Behaves
pub mod PlainCall
pub mod Traced
pub mod Line
