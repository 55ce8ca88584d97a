-- What only the code and its proofs need (this library's own): no clause of a public call cites it.

-- the value of a word at its place
pub mod PlacedWords
-- an ACE whose who is a special identifier or an id
pub mod IdAces
-- ACEs of any type while they are read
pub mod AnyAces
-- texts of ACEs of any type while they are read
pub mod AnyTexts
-- entries of an attribute while they are read and written
pub mod AttributeEntries
-- the letters of a field while they are read
pub mod LetterReading
-- texts of entries while they are read
pub mod TextReading
-- the fields of an entry of a text of FreeBSD, ZFS and archives
pub mod NfsReading
-- the fields and the entries of a text of a POSIX ACL
pub mod PosixReading
-- how the text of a POSIX ACL is written, pass by pass
pub mod PosixWriting
-- the names of ids in the maps of the code
pub mod NamesOfIds
-- how a text of entries is written
pub mod TextWriting
-- what a form cannot hold of the rest of a list
pub mod FaultSearch
