pub mod LegNets
pub mod Lookups
