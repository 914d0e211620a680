pub mod Hushed
