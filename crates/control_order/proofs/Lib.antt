pub mod ControlTasks
pub mod ControlActs
pub mod TrackedControls
