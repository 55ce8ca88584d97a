-- What only the code and its proofs need (this library's own): no clause of a public call cites it.

-- a prepared list while it is read
pub mod PreparedBody
-- a prepared list of ids while it is made and read
pub mod IdsBody
-- the hashes of the groups of a requester
pub mod NameHashes
-- an object and a requester with their hashes, as a situation
pub mod AskedByHashes
