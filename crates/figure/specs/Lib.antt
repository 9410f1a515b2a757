pub mod Corners
pub mod Figure
pub mod Inside
pub mod Steps
pub mod Redrawn
