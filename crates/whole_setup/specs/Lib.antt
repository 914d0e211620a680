pub mod Whole
pub mod OneWhole
