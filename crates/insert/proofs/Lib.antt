pub mod Answers
pub mod Elements
pub mod FromFormed
pub mod Lists
pub mod Parts
pub mod Spots
pub mod Walking
