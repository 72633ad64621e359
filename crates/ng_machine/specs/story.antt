pub mod Story
pub mod Closing
pub mod SoundStory
pub mod Desks
pub mod Work
pub mod StoryLaws
pub mod DeskLaws
