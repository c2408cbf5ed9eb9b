pub mod Stored
pub mod Laws
pub mod Places
pub mod Moves
pub mod Refreshing
