pub mod AsLent
pub mod Following
