pub mod Progress
pub mod Control
pub mod ControlView
pub mod TrackedControl
