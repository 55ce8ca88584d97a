pub mod Removal
pub mod internal
