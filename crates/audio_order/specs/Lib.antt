pub mod Fronts
pub mod Audio
pub mod AudioView
pub mod Tracked
