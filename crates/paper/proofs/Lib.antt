-- Rooms of the proof, from the leaves up; Theorems holds the public statements.
pub mod OtherModels
pub mod Values
pub mod Leasts
pub mod Closure
pub mod Settled
pub mod Contained
pub mod Supported
pub mod Order
pub mod Existence
pub mod Smallest
pub mod Conflict
pub mod Examples
pub mod Theorems
