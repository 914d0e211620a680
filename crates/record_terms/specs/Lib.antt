pub mod Message
pub mod Session
