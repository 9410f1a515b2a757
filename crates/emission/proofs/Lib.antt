pub mod Emitted
pub mod Measured
