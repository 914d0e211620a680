pub mod Places
pub mod Added
