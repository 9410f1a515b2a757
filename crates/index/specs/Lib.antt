pub mod Index
pub mod Reached
pub mod Faults
pub mod Steps
