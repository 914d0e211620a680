pub mod Count
pub mod Counts
pub mod Files
pub mod Taken
pub mod MemoryVault
pub mod MemorySink
pub mod World
