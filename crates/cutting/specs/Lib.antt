pub mod Cutting
pub mod Steps
