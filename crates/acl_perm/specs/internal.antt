-- What only the code and its proofs need (this library's own): no clause of a call for users cites it, and clauses of
-- calls of `acl_perm::internal` do.

-- the first place of a byte
pub mod Places
-- the proofs that principals and keys are totally ordered
pub mod Totality
-- the proof that principals that compare equal are fed alike to a hasher
pub mod FedAlike
-- the rights of a mask that are not given yet
pub mod RightsLeft
-- how a definition continues with the value of a step before it
pub mod Steps
-- a table that names bits, as the code holds it
pub mod NameTable
