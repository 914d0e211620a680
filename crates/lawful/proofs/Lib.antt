pub mod Counts
pub mod Rings
pub mod Progress
pub mod LooksKept
