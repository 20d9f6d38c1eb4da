pub mod Samples
pub mod Arithmetics
pub mod Products
