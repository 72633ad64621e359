pub mod Tie
pub mod TieLaws
