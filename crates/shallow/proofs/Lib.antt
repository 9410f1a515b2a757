pub mod Parting
pub mod Summing
pub mod Settling
pub mod Filling
