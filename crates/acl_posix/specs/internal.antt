-- What only the code and its proofs need (this library's own): no clause of a public call cites it.

-- the order of the tags of the code with its proof, and tags and sets of entries as numbers
pub mod TagCode
-- the tests of sets of entries and of files are equivalences
pub mod Equivalences
-- the fault of a tag that occurs twice
pub mod RepeatFault
-- entries as single numbers, which are sorted
pub mod Packed
-- the place of a tag in a list in canonical order, or the place where it would be inserted
pub mod Search
-- which entries a valid set cannot lose, and which it cannot get
pub mod Required
-- what one group is granted
pub mod GroupSearch
-- what a set answers by the groups of a requester
pub mod GroupAnswers
-- the table of the maps of names, and tables as numbers
pub mod NameMaps
-- the digits that some bytes begin with
pub mod Digits
-- lines that are read in one step
pub mod WrittenLine
-- what the reader of a text computes
pub mod Reading
-- how a text is written, one entry after the other
pub mod Writing
-- the faults of a list of raw entries as faults of an attribute
pub mod AttributeSteps
