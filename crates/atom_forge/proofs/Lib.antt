pub mod Levels
pub mod Pieces
pub mod Containers
pub mod Stacks
