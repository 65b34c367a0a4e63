-- What callers cite: Laws. The others serve the entry.
pub mod Values
pub mod Entry
pub mod Laws
pub mod Lines
