pub mod Values
pub mod Given
