pub mod Actor
pub mod Call
pub mod Ring
pub mod Entry
pub mod Event
pub mod Form
pub mod Told
