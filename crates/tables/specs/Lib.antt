pub mod Accept
pub mod Codes
pub mod Places
pub mod Rows
pub mod Shown
pub mod Sizes
pub mod Tables
