pub mod Changes
pub mod Empty
