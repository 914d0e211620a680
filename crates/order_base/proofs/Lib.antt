pub mod Lists
pub mod Follow
pub mod OwnSteps
pub mod Sessions
