pub mod Backs
pub mod Documents
pub mod Fronts
pub mod Making
pub mod Names
pub mod Stock
pub mod Wrapped
