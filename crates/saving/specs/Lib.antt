pub mod Salvage
pub mod Report
pub mod Faults
pub mod Steps
