pub mod Limits
pub mod There
pub mod Answer
