-- What only the code and its proofs need (this library's own): no clause of a public call cites it.

-- how the POSIX ACL of a shape is made
pub mod ShapeBody
-- how users and groups are taken out of the shape of a POSIX ACL
pub mod PruningBody
-- how the ids that a list names are collected up to a bound
pub mod ListNamesBody
-- how a lost grant is searched
pub mod LossBody
