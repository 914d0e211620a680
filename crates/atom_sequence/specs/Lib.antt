pub mod Event
pub mod Merge
pub mod Views
pub mod Lists
pub mod Laws
pub mod Cursors
pub mod Inside
