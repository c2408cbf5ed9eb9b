pub mod Fills
pub mod Gives
