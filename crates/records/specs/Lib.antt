pub mod BothWays
pub mod Kinds
pub mod Records
pub mod Traces
