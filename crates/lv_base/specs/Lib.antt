pub mod Text
pub mod Number
pub mod Decimal
pub mod Leading
