pub mod Amplifier
pub mod Echo
