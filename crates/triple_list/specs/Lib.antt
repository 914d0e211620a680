pub mod Escapes
pub mod Listing
