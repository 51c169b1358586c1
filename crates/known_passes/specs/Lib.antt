pub mod OneRouter
pub mod TwoChips
