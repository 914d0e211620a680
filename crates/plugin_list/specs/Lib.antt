pub mod Listing
pub mod Plugins
pub mod Rules
