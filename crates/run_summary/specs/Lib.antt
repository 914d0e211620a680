pub mod Counting
pub mod Tallies
pub mod Parts
pub mod Plays
pub mod Laws
