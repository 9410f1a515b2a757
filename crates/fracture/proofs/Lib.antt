pub mod Demands
pub mod Delivered
pub mod Gridded
pub mod Settled
pub mod Handed
