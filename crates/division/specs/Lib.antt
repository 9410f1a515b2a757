pub mod Division
pub mod Promise
pub mod Steps
