pub mod Ends
pub mod Fuel
pub mod Plain
pub mod Pushed
pub mod Steps
