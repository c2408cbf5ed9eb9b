pub mod Exports
pub mod Laws
