pub mod Escaping
pub mod Quotings
