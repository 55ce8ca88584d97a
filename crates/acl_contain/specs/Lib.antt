pub mod EveryPath
pub mod Holders
pub mod Implied
pub mod Needed
pub mod internal
pub mod Removal
pub mod Questions
pub mod Tidied
