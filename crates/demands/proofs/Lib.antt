-- One page: the three demands, about the public entries. Report and Conflict serve it.
mod Report
mod Conflict
pub mod Demands
