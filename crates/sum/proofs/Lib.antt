pub mod Sum
pub mod Lists
