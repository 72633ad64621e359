pub mod Coming
pub mod Waiting
pub mod Journeys
pub mod Applied
pub mod Numbers
pub mod EventsMore
pub mod Sorting
pub mod Traced
