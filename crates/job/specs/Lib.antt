pub mod Bytes
pub mod Job
pub mod Calls
pub mod ByCalls
pub mod Placed
pub mod Steps
pub mod Faults
