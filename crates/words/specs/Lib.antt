-- What a word table means, when it is accepted, and the limits on its records.
pub mod Layout
pub mod RecordAt
pub mod Check
pub mod OnlyLines
pub mod Within
pub mod Flags
