pub mod Grid
pub mod Lines
pub mod Inside
pub mod Promise
pub mod Steps
