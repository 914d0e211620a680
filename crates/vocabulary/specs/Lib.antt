pub mod Namespaces
pub mod Words
