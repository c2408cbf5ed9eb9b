pub mod Bounds
pub mod Groups
pub mod Laws
