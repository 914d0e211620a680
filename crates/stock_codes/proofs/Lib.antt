pub mod Made
pub mod Wrapping
