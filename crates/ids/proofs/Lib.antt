pub mod ByIndex
pub mod Chains
pub mod Cut
pub mod Ids
pub mod KeyWords
pub mod Pieces
pub mod Prefixes
pub mod Ranges
