pub mod Tracked
