pub mod Lent
pub mod EdgeLent
pub mod TextLent
pub mod IndexLent
pub mod SaveLent
