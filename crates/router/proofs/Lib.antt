pub mod Inputs
pub mod Shown
pub mod ShownSoFar
