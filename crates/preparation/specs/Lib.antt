pub mod Lines
pub mod Outlines
pub mod Status
