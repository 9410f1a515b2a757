pub mod Told
pub mod Delivery
