pub mod Characters
pub mod Pattern
pub mod Spans
pub mod Terminals
pub mod Tokens
pub mod Tree
pub mod Value
