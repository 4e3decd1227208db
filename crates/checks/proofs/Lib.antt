pub mod BytesPast
pub mod FirstRow
pub mod OfOps
pub mod OneKey
pub mod Parts
pub mod Tables
