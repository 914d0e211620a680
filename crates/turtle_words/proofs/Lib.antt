pub mod Runs
pub mod Plain
pub mod Quoted
pub mod Lexing
pub mod Tokens
