pub mod Begun
pub mod Given
pub mod Lent
pub mod Written
