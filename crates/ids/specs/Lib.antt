pub mod Compared
pub mod Words
pub mod Kinds
pub mod Refusals
