pub mod FrontTables
pub mod AudioTasks
pub mod TrackedAudio
