-- What a reader must believe of the mathematics, in this order.
pub mod Table1
pub mod Rules
pub mod Definitions
pub mod Marking
pub mod Examples
pub mod Fires
