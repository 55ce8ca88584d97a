-- What the rows of principals and their proofs need (this library's own); no public clause cites it.

-- numbers by which most principals are compared
pub mod Heads
-- how the sets of places of merged rows relate to the list that is left
pub mod Merged
-- how the fields of what remains relate to the list that is left
pub mod Remaining
-- what is sorted for the numbers of rows
pub mod RowNumbers
-- how the rows of principals are numbered, and the place of each of their rights
pub mod Rows
-- lists of the places that wait
pub mod Waiting
-- rows of principals by counting
pub mod LowerCounts
