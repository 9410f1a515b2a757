pub mod Store
pub mod Eight
pub mod Price
