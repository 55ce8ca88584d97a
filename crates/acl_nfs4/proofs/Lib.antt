pub mod Exports
-- the names that most proofs import
pub mod Common
-- the exits by a `?`
pub mod Exits
