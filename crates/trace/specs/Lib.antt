pub mod Directly
pub mod Replay
pub mod Stops
