pub mod CheckBytes
pub mod Readable
pub mod ReasonBytes
