pub mod Dues
pub mod Growth
pub mod Measured
