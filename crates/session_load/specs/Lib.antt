pub mod Names
pub mod Bundle
pub mod OneAnswer
