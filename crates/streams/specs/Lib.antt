pub mod Added
pub mod Rests
pub mod Texts
