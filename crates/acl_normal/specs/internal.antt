-- What only the code of this library and its proofs need; no public clause cites it.

-- the rows of principals, and what is left of a list by rows
pub mod rows
-- the order of a normal form
pub mod emit
-- the comparison of two lists
pub mod comparison
-- columns without a key that plays no part, and columns that agree on the first of each two principals that overlap
pub mod Alike
-- the keys that play a part, without a look at any situation
pub mod Plain
-- the plain way to the normal form, pass by pass
pub mod Best
-- what is left of a list after rights that play no part are removed
pub mod Reduced
-- how many keys the columns of a list have
pub mod Counts
-- how long lists and slices are, and how great indices
pub mod Limits
-- lists that keep within a profile, and keys that come before another
pub mod Passes
-- the lists of the code's ACEs, as plain data
pub mod Shown
-- the rights of a mask, one after the other
pub mod NextRight
-- which rights are needed, computed from masks
pub mod Needed
-- ACEs and keys by their places in a list, and the numbers of the sets of places
pub mod Places
-- lists on the way to a normal form
pub mod Tidy
-- how the rows of the table of one right come about
pub mod TableRows
