pub mod Parting
pub mod Next
pub mod Acting
