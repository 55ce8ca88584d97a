-- what one ACE more after a list adds to a column, to its unshadowed keys, and to the first ACEs of principals
pub mod FirstRows
-- the masks of the first ACEs of a list, place by place
pub mod FirstMasks
-- the masks of what later ACEs have, and of what everyone is allowed
pub mod LaterBits
-- the needless bits dropped, from the last ACE to the first
pub mod Unneeded
-- a list with reduced columns is irreducible and grants the same
pub mod Reducing
-- lists of the ACEs of the code, place by place, and where a key is free in two columns together
pub mod Passes
-- the plain reduction of a column decides alike, and is settled
pub mod Reduced
-- the plain reduction takes keys away
pub mod Shorter
-- the unshadowed keys of a column decide as the column, and are a clean column
pub mod Unshadowed
-- no column decides alike with fewer keys than an irreducible one
pub mod Fewest
-- how many rights the reductions of lists have
pub mod RightCounts
