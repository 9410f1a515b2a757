pub mod Lane
pub mod Price
