-- What reading finds is what the text is.
pub mod Flat
pub mod Texts
pub mod Breaks
pub mod Going
pub mod Printing
