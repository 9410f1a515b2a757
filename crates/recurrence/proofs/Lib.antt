pub mod Choice
pub mod Scheme
pub mod Cutting
