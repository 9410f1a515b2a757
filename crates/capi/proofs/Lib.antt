pub mod Lent
pub mod Unique
pub mod EdgeUnique
pub mod TextLent
pub mod TextUnique
pub mod IndexLent
pub mod IndexUnique
pub mod SaveUnique
