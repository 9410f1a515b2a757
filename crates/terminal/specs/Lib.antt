pub mod Output
pub mod Status
