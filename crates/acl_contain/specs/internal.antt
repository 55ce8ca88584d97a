-- What only the code of this library and its proofs need; no public clause cites it.

-- the list that grants some rights where another list grants one right
pub mod RightReplaced
-- which rights stay under a bound
pub mod Restriction
-- what shows which rights exceed a bound
pub mod Limits
-- tables by the places of a bound
pub mod LimitTables
-- which rights were kept so far
pub mod Kept
-- a list at one of five paths, with each ACE at its place
pub mod InPlace
-- what shows into which earlier ACE an ACE can be joined
pub mod Joining
