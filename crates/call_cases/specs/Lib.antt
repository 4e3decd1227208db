pub mod Lent
pub mod Merge
pub mod Views
pub mod Table
