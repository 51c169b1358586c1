pub mod Asking
pub mod Building
pub mod Grouping
pub mod Groups
pub mod Pays
pub mod Promises
pub mod Room
