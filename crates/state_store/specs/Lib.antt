pub mod Properties
pub mod Shelf
pub mod Slots
