pub mod Ready
pub mod Lots
pub mod Laws
