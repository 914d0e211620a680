pub mod Excluded
pub mod Components
pub mod Dots
pub mod Target
pub mod Iri
