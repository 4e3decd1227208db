pub mod Lists
pub mod Spotted
