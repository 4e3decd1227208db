pub mod Entries
pub mod Scope
pub mod Scoped
pub mod Sum
