pub mod Summing
pub mod Climbing
pub mod Singles
