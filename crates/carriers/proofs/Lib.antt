pub mod Values
pub mod Exponents
pub mod Standing
pub mod Chambers
pub mod Exchanges
