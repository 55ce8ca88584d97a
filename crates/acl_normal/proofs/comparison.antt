-- the principals that lists mention
pub mod MentionedPrincipals
-- the small situations of two lists decide whether the lists grant the same
pub mod SmallSetLemmas
-- what a list grants to a small set of principals, as the code finds it: for all rights at once
pub mod SetEvaluation
-- the test whether two principals are the same
pub mod SameTests
-- the search through the small sets, one after the other
pub mod SetSearchLemmas
-- the longest name of the principals that lists mention
pub mod MentionedNames
-- principals in order: none is below itself, and rising lists of the same principals are the same
pub mod Ordered
-- two lists that differ in a direction in some situation, or in none
pub mod Differing
-- what the first small set at which two lists differ says of them
pub mod FirstSet
-- the numbers of rising principals
pub mod Numbers
-- the principals that a list mentions, by row
pub mod MentionedRows
-- the principals of a table, in order, and their numbers
pub mod MentionedNumbers
-- whom the ACEs of two lists name, by the numbers of the principals
pub mod MentionedWhoms
-- where a list first mentions each principal
pub mod FirstPlaceLemmas
-- two answers, and whether they differ in a direction
pub mod Directions
-- what two principals are granted, by what each is granted alone and which comes first
pub mod PairGrants
-- the least number of a principal at which two lists do not grant the same, bit by bit
pub mod RowFacts
-- the greatest places of the placings that count, and whether one is over a number
pub mod GreatestPlaces
-- tables of the greatest places, as the code makes them
pub mod PlaceTableLemmas
-- tables that show which placings invert another
pub mod Inverting
-- the search for the first placing that passes a test, and for the first that inverts another
pub mod FirstInverting
-- the places of placings are within the lists
pub mod PlacesWithin
-- the ACEs of a list that have a right, and principals that none of these ACEs names
pub mod UnnamedPrincipals
-- the rights of the ACEs that name each principal, by its number
pub mod RightsByNumber
-- the numbers of the principals that have a right
pub mod NumbersWithRight
-- whom the ACEs with a right name, by new numbers
pub mod RenumberedWhoms
-- the columns of a right, as the code makes them
pub mod ColumnLemmas
-- the least number for which something does not hold, of rising numbers
pub mod LeastNumber
-- the first pair of principals at which two lists differ on one right
pub mod FoundOnRight
-- the first pair of principals at which two lists differ, right by right
pub mod FoundSoFar
-- what a list grants to each principal alone
pub mod GrantedAloneLemmas
-- the first small set, of the first principal and the first pair at which two lists differ on all rights
pub mod FoundOnAll
-- the first small set, by least numbers
pub mod Assembly
-- what a difference has to have, so that an object, a requester and a right can be made of it
pub mod Asked
-- the rights on which two lists may differ, by a walk over both
pub mod DifferingRightsLemmas
-- what a list grants to principals by their numbers
pub mod MembersFacts
-- lists that name the same as another, place by place
pub mod SamePlacesLemmas
