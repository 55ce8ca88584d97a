pub mod Exports
-- the names that most proofs import
pub mod Common
