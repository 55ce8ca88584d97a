pub mod ToPosix
pub mod NoGreatest
pub mod Pruning
pub mod PruningLaws
pub mod ListNames
pub mod PosixOfList
pub mod LostGrants
pub mod internal
