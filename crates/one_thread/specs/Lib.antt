pub mod Offers
pub mod Turns
pub mod OneThread
pub mod Reserve
pub mod Laws
