pub mod CallPlayed
pub mod CallKnown
pub mod CallKept
pub mod Keeping
pub mod Takes
pub mod Moments
pub mod Tells
