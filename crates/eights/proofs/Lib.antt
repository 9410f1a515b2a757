pub mod Cut
pub mod Rows
pub mod Judge
pub mod Pricing
pub mod Lines
