pub mod Jobs
pub mod Requests
pub mod Levels
pub mod Answers
pub mod Tank
pub mod Playing
