pub mod Objects
pub mod Order
pub mod Reading
pub mod Ready
pub mod Rules
pub mod StateText
pub mod States
pub mod Values
