pub mod Backs
pub mod Locals
pub mod Worker
pub mod WorkerView
pub mod TrackedWorker
