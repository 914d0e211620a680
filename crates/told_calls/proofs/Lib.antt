pub mod Judged
pub mod Calls
