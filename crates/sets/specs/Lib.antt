pub mod Sets
pub mod Some
pub mod First
