pub mod Weights
pub mod Prices
pub mod Filling
