pub mod Sides
pub mod Lengths
