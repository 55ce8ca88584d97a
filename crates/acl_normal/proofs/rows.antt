-- ACEs of the code and their masks, by place
pub mod ByPlace
-- the numbers of the masks that the code holds, by place
pub mod MaskNumbers
-- pairs of a kind and a place
pub mod PairParts
-- the first ACE of a principal with a bit
pub mod FirstAces
-- whether places wait before a place
pub mod Waits
-- what takes no part has no bit, whatever is taken out or put in
pub mod Quiet
-- whether a key is free, by the places that wait
pub mod FreeByPlaces
-- whether a principal is free at a bit, by its place
pub mod FreeBits
-- bits of a principal taken out of a list
pub mod TakeOut
-- the keys at places that wait, and at the place of a principal's first ACE
pub mod WaitingKeys
-- when two slots, two classes or two places are the same
pub mod Slots
-- lists of places in order
pub mod PlaceLists
-- one bit of a principal taken out of the rows
pub mod BitTaken
-- several bits of a principal taken out, one after the other
pub mod BitsTaken
-- rows of principals: they are in the order of the principals
pub mod Rows
-- lists of one outline name the same principals and have the same rows
pub mod RowsAlike
-- sets of the places that wait
pub mod WaitingPlaces
-- where each right of a principal is: the place of its first ACE with the right
pub mod FirstPlaces
-- a head that is less is of a principal that comes first
pub mod HeadOrder
-- how many elements of a list pass a test, and that those that pass end there if they come first
pub mod PassCounts
-- the names of the principals of a list, in order: where each principal begins, and which ACE each name comes from
pub mod SortedNames
-- rows of principals by number: in the order of the names, each row begins at the first name of its principal
pub mod RowNumbers
-- places that are sorted by heads and whos are in the order of the principals
pub mod SortedPlaces
-- the search for the row of a principal, along the places in their order
pub mod RowSearch
-- rows of ACEs whose principals do not fall, made ACE by ACE
pub mod RisingRows
-- the bytes with which the names of a list begin, and heads of what is after them
pub mod Beginnings
-- what the public calls on merged rows say, from what those on one bit say
pub mod Publics
-- a right that is taken out, with the slot, the set and what is left as the code has them
pub mod EmitRight
-- rows of principals by counting
pub mod ShortListRows
