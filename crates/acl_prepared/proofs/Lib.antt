pub mod NameHashes
pub mod PreparedBytes
pub mod PreparedLists
pub mod IdGroups
pub mod IdBytes
pub mod IdParts
