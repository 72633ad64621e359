pub mod MoreInputs
pub mod SetUps
pub mod OfDesks
pub mod AtWork
pub mod SoundStories
