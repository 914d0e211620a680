pub mod Tracked
pub mod Waiting
pub mod Queues
