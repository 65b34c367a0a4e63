pub mod Laying
pub mod Rooms
pub mod Bounds
pub mod Answers
pub mod Determined
