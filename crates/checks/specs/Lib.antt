pub mod Fits
pub mod Find
pub mod Refers
