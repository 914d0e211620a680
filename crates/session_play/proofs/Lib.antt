pub mod Plays
pub mod Verdicts
pub mod Besides
pub mod Judged
pub mod Prefixes
pub mod Signals
pub mod Values
pub mod Endings
