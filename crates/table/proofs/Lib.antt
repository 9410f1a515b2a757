pub mod Entry
pub mod Run
pub mod Pairs
pub mod Judging
pub mod Side
pub mod Fill
