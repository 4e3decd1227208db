pub mod Finished
pub mod Found
pub mod Owned
pub mod Scopes
pub mod Searches
pub mod Totals
