pub mod Unknown
pub mod Memberships
pub mod internal
