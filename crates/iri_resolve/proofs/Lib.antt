pub mod First
pub mod Turns
pub mod Utf8
pub mod Utf8Target
pub mod Undotted
pub mod Itself
