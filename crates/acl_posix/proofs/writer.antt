-- an entry as it is written spells that entry
pub mod WrittenEntries
-- lines with one entry each spell these entries
pub mod EntryLines
-- the file of a text whose pieces spell its entries
pub mod TextFiles
-- the canonical, the shown and the short text read back
pub mod ReadBack
-- bytes that are put in front of others, and entries that are put one after the other
pub mod Putting
-- how many bytes a text has at most
pub mod Bounds
-- the texts of the code are those of the definitions
pub mod Forms
