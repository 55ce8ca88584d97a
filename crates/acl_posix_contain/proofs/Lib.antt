-- the access check by the entries at which it looks
pub mod Looking
-- what removals grant, and the greatest of them
pub mod Removals
-- the permissions of entries, bit by bit
pub mod Bits
-- what a bound grants to everybody whom it does not name
pub mod Strangers
-- which permissions stay
pub mod Staying
-- what is kept, entry by entry
pub mod Keeping
-- the entries of a set, place by place
pub mod Entries
