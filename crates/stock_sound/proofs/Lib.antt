pub mod Echoing
pub mod Fits
pub mod Mixing
