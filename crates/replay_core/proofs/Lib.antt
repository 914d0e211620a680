pub mod DeskLemmas
pub mod EachLemmas
pub mod Mixing
pub mod RunLemmas
pub mod Texts
pub mod ThreadingLemmas
