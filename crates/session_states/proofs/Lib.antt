pub mod Earlier
pub mod Items
pub mod Judging
pub mod OneStates
pub mod SomeStates
