-- Lines matched with literals, the lines that hold, and what the checker's promise says.
pub mod Matches
pub mod Held
pub mod Rooms
pub mod Checks
pub mod Determined
pub mod WellSupported
pub mod OnlyLines
