pub mod Edge
pub mod Landing
pub mod Owned
pub mod Promise
pub mod Steps
