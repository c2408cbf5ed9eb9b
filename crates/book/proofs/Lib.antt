pub mod Demands
pub mod Exist
