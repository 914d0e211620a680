pub mod Answer
pub mod File
pub mod Files
pub mod Restores
pub mod Rules
