pub mod Coefficients
pub mod Kinds
