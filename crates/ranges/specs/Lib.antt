pub mod Most
pub mod Fit
