pub mod Accepted
pub mod Counted
pub mod Tracing
pub mod Faultless
pub mod Demand3
pub mod Determined
pub mod OnlyLines
