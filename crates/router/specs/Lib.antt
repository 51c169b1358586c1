pub mod Call
pub mod Showing
