pub mod Lane
pub mod Price
pub mod Fill
