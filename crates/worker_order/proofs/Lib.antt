pub mod BackTables
pub mod LocalTables
pub mod WorkerTasks
pub mod TrackedWorkers
