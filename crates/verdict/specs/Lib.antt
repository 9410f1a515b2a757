pub mod Verdict
pub mod Memory
pub mod Search
pub mod Pinwheels
