pub mod Shares
pub mod Growth
