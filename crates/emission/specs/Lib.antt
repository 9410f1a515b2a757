pub mod Emission
pub mod Measuring
