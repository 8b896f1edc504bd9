pub mod Products
pub mod Fitting
