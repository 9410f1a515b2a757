pub mod Weighed
pub mod Wheels
pub mod Costs
pub mod Turning
pub mod Steps
