-- loops over ACEs in memory, and what they gather bit by bit
pub mod Gathered
-- the first pass of the plain reduction: shadowed bits go
pub mod Reached
-- the second pass of the plain reduction: bits that aren't needed go
pub mod NeededBits
-- which ACE comes first: of those that are free somewhere, the one with the least key
pub mod Candidates
-- ACEs that come first one after the other: what has come and what is left
pub mod InTurn
-- what is emitted from the plain reduction of a list is its normal form
pub mod PlainForm
-- which keys are free in what is left of merged rows
pub mod FreeInRows
