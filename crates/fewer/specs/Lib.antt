pub mod Call
pub mod Hand
pub mod Process
pub mod Promises
