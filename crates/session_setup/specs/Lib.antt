pub mod Steps
pub mod Newest
pub mod Faults
pub mod Declaring
pub mod Planning
pub mod Loaded
pub mod Loading
pub mod OneSetup
