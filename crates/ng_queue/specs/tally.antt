pub mod Tally
pub mod Feeding
pub mod TallyLaws
