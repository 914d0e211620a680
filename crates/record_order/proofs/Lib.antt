pub mod Joint
pub mod QueueTables
