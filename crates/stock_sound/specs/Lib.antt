pub mod Amplifier
pub mod Constant
pub mod Echo
pub mod Mixer
pub mod Plain
