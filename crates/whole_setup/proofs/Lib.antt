pub mod Whole
pub mod OneEnd
