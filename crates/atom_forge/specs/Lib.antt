pub mod Opened
pub mod Forged
pub mod Inside
pub mod Laws
