-- when two principals, two kinds or two keys are the same, and when two principals overlap
pub mod Names
-- one bit of a list that begins with an ACE, or that is two lists
pub mod Columns
-- a column without a principal, and a column in which each principal is at most once
pub mod Shorter
-- the first key of a column that passes a test
pub mod FirstKind
-- the small situations: which principals match in them
pub mod Realised
-- what an irreducible column looks like
pub mod Irreducible
-- the principals of an irreducible column have names
pub mod Named
-- irreducible columns that decide alike are alike
pub mod SameKeys
-- single bits of a mask
pub mod Bits
-- the next right of a mask, from a bit on
pub mod NextRight
-- the columns of a list, and from which ACE each key of a column comes
pub mod ListColumns
-- the columns of irreducible lists are irreducible, and alike if the lists grant the same
pub mod IrreducibleLists
-- which keys are free, by what comes first
pub mod Free
-- keys that are equal in their order are equal
pub mod Keys
-- normal lists that grant the same are equal
pub mod Unique
-- irreducible lists that grant the same: the same bits, in the same order
pub mod SameOrder
-- what comes first in a list, and what is emitted from the rest
pub mod FirstAndRest
-- settled columns, and that they are irreducible
pub mod Settled
-- a column alike an irreducible one is irreducible
pub mod Invariant
-- lists whose columns are irreducible, and normal forms
pub mod Normal
-- small situations suffice to compare columns
pub mod Small
-- the weight of a list, bit by bit
pub mod Weights
-- sets with fewer bits stay within what a set is within
pub mod Kept
-- lists that fit a profile grant nothing outside it
pub mod Profiles
-- normal forms have equal spellings if and only if their sources grant the same
pub mod Spelled
-- what is known of an accepted list: each who is a name, and each bit is a right
pub mod Accepted
-- what lists of one outline have in common: all but the masks
pub mod Outline
-- what makes a normal list the normal form of an accepted one: that its keys are keys of the source
pub mod Forming
-- the keys of the normal form are keys of the source
pub mod Taken
-- the five normal forms of a list, and what they say about the list
pub mod FiveFormLemmas
-- the order of three keys, and the flags that a principal needs
pub mod Candidates
