-- One turn of the loop over marks, what a record without fault is, that two allowed outcomes are equal, and small records computed.
pub mod Laws
pub mod Examples
