pub mod Shorts
pub mod Journal
pub mod JournalFields
