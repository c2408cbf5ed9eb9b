pub mod Calls
pub mod Examples
pub mod Items
pub mod Listings
pub mod Printed
