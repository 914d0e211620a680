pub mod Inside
pub mod Loading
pub mod Once
pub mod OneLoading
pub mod Plugins
pub mod SomeLoading
