pub mod Cuts
pub mod Examples
pub mod Lines
pub mod Places
pub mod Puts
