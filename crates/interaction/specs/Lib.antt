pub mod Interaction
pub mod Attempts
pub mod Answers
pub mod Laws
