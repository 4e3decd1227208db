pub mod Calls
pub mod Counts
pub mod Entries
pub mod Groups
pub mod Keyed
pub mod Pages
pub mod Picturing
pub mod Shows
