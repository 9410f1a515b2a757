pub mod Sums
pub mod Bounds
pub mod Units
pub mod Growth
