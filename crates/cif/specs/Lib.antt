pub mod Text
pub mod Faults
pub mod Calls
pub mod Steps
