pub mod Entry
pub mod Run
pub mod Cuts
pub mod Side
pub mod Fill
