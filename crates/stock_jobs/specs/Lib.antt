pub mod Counts
pub mod Fetch
pub mod Burst
