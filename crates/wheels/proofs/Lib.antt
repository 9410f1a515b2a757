pub mod Costs
pub mod Weighed
pub mod Steps
pub mod Turns
pub mod Filling
