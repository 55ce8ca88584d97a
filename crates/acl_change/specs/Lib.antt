pub mod ListChmod
pub mod Resolved
pub mod internal
