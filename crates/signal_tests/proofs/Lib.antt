pub mod Sent
pub mod Three
pub mod Two
