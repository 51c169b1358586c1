pub mod Covered
pub mod Covering
