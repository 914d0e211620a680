pub mod Leaving
pub mod Pens
