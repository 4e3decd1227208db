pub mod Answers
pub mod Entry
pub mod Group
pub mod Page
pub mod Showable
