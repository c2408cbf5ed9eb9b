pub mod Books
pub mod Calls
pub mod Small
pub mod Outcomes
pub mod Premises
