pub mod Across
pub mod Hunting
pub mod Judged
pub mod Search
