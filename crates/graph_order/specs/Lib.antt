pub mod Ports
pub mod Lines
pub mod Wiring
pub mod Plans
pub mod Cycles
pub mod Search
pub mod Answer
pub mod Setup
