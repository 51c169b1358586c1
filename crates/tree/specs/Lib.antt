pub mod Call
pub mod Growing
pub mod Promises
pub mod Rooted
pub mod Rows
pub mod Walking
pub mod Way
