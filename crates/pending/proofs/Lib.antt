pub mod Laws
pub mod Closing
pub mod Marked
