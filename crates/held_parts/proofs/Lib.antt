pub mod Away
pub mod Changes
