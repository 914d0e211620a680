pub mod Codes
pub mod Stores
pub mod Sessions
pub mod Scenes
pub mod Shows
