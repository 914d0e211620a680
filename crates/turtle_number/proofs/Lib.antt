pub mod Cuts
pub mod Characters
pub mod Productions
