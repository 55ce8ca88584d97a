-- What the comparison of two lists and its proofs need (this library's own); no public clause cites it.

-- the sets of principals that the code of a comparison holds
pub mod CodeSets
-- the ACEs of two lists that have one right, and the principals that they name
pub mod Columns
-- what a list grants to each principal alone
pub mod GrantedAlone
-- how the fields of a comparison relate to the two lists
pub mod ListPair
-- the directions in which two lists are compared
pub mod Directions
-- where two lists first mention each principal, and what they say there
pub mod FirstPlaces
-- the first pair of principals at which two lists differ
pub mod FirstPair
-- sets of principals by their numbers
pub mod Members
-- the principals that lists mention, by row and by number
pub mod MentionedRows
-- tables that show at once whether a row inverts another
pub mod PlaceTables
-- the rights on which two lists may differ
pub mod RightsApart
-- where a list names the same as another
pub mod SamePlaces
-- the search for the first small set of principals at which two lists differ
pub mod SetSearch
-- two lists that are compared, and questions about them
pub mod TwoLists
