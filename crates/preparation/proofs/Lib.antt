pub mod Accepted
pub mod Opening
pub mod Fracturing
pub mod Status
