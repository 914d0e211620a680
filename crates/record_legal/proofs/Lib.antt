pub mod OfKind
pub mod Keeping
pub mod Reading
