pub mod Shot
pub mod Bad
