pub mod Actions
pub mod Repeated
