pub mod Join
pub mod Union
pub mod Steps
