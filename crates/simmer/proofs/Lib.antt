pub mod Counted
mod Digits
