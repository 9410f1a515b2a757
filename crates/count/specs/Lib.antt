pub mod Count
pub mod Corners
pub mod Flat
