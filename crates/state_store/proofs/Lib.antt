pub mod Found
pub mod Kept
pub mod Ordered
pub mod Places
pub mod Storing
