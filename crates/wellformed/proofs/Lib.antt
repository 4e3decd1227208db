pub mod Differ
pub mod Entries
pub mod Found
pub mod InOrder
pub mod Lists
pub mod Refusal
pub mod StackWalk
pub mod Whole
