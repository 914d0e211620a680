pub mod Answer
pub mod Below
pub mod Machine
pub mod Meaning
pub mod Numbers
pub mod Vocabulary
