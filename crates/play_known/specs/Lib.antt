pub mod Known
pub mod Rings
pub mod Telling
pub mod Calling
pub mod InCall
pub mod Keeping
pub mod Laws
