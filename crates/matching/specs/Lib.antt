pub mod Matching
pub mod Searches
pub mod Places
pub mod Slots
