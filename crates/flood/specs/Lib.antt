pub mod Codes
pub mod Marks
pub mod OnItsWay
pub mod Shortest
pub mod Ways
pub mod WholeWay
