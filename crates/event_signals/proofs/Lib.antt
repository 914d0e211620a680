pub mod AsRead
pub mod Orders
pub mod Sequenced
