pub mod Deciding
pub mod Detour
pub mod Errors
pub mod Links
pub mod Wants
