pub mod Space
pub mod Done
