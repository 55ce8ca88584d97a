-- What only the code and its proofs need (this library's own): no clause of a public call cites it.

-- the search of a list for the ACE that decides
pub mod DecidingBody
-- the answers that are possible where names are unknown
pub mod UnknownBody
-- the search for an assignment that grants a request
pub mod RequestBody
-- the names of a list by number, and which of them are out
pub mod OutNames
