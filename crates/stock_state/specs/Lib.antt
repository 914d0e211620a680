pub mod Levels
pub mod Keep
