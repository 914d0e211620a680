pub mod Steps
pub mod GoingOn
