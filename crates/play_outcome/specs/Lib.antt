pub mod Endings
pub mod Pcm
pub mod Saves
pub mod Messages
pub mod Counts
pub mod Summary
pub mod Laws
