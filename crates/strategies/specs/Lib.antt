pub mod Order
pub mod Held
