pub mod Few
pub mod Rings
pub mod Counts
pub mod Going
pub mod Texts
pub mod Telling
