pub mod Counting
pub mod Keeping
pub mod Units
