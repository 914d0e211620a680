pub mod Readies
