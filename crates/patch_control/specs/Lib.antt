pub mod Properties
pub mod Message
pub mod Written
pub mod Laws
pub mod Gathering
pub mod Writing
