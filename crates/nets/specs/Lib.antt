pub mod Nets
pub mod Bests
pub mod Legs
