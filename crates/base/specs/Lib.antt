pub mod Pick
pub mod Walks
pub mod All
pub mod Sets
pub mod Gcd
pub mod SetLaws
pub mod Chains
pub mod Maps
