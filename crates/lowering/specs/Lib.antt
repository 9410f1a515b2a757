pub mod Least
pub mod Lowered
pub mod Lowering
