pub mod Attempting
pub mod Listing
pub mod Guard
pub mod Answering
pub mod AnswerGuard
