pub mod Across
pub mod Link
pub mod LinkWords
pub mod Offsets
pub mod Phase
pub mod Words
