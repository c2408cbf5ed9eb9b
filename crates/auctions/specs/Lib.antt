pub mod Ranged
pub mod Auctions
