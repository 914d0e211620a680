pub mod Caps
pub mod Digits
pub mod Fronts
pub mod Numerals
pub mod Scales
