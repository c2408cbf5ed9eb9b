pub mod Padded
pub mod Kept
pub mod Packed
pub mod Only
