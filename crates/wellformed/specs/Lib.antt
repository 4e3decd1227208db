pub mod Checked
pub mod Document
pub mod Rules
pub mod Neighbours
pub mod Stack
