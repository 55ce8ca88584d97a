pub mod Prepared
pub mod PreparedIds
pub mod internal
