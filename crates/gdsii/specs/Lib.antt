pub mod Record
pub mod Boundary
pub mod Calls
pub mod Faults
pub mod Steps
