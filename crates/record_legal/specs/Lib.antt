pub mod Judging
pub mod Legal
