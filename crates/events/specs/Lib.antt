pub mod Fields
pub mod Kinds
pub mod Refusals
pub mod Table
pub mod Rows
pub mod Laws
pub mod Cases
pub mod Limit
