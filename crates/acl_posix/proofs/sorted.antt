-- the list of a set: the place of a tag, the permissions there, and edits of one entry
pub mod Lists
-- when a set is valid, and what changes if one entry is put into the set or taken out
pub mod OneEntry
-- when two sets and two files are equal
pub mod Equality
-- the union that the mask is, and laws of the mode and the mask
pub mod ModeAndMask
-- which group of a requester matches an entry
pub mod Groups
