-- What only the code and its proofs need (this library's own): no clause of a public call cites it. Two definitions that
-- such clauses cite are made of it: the who of a list of any ACEs (`PartFault`) is judged by `text_fault` of `Reading`,
-- and the words of acl_forms (`Words`) are at the places of `Reading`.

-- the result of reading a list's bytes from left to right, and its fault
pub mod Reading
-- the place of a reader
pub mod Cursor
-- the ACEs of a list without the word of their number
pub mod Body
-- a table of names as the code holds it, and how a field of names is cut
pub mod NameTable
-- the result of reading lines of ACEs, and its fault
pub mod AceReading
-- bytes at the end of others
pub mod Appending
-- up to which place bytes that come in pieces are judged
pub mod Progress
-- fields that are pulled from a source
pub mod Pulling
-- equal lists are fed alike to a hasher
pub mod FedAlike
-- to compare lists by their spellings is an equivalence
pub mod SameSpelling
-- the part of a list that access reads, while it is read
pub mod PartReading
-- one ACE at an offset
pub mod AceFrom
-- the names that are noted while names are exchanged
pub mod NameMap
