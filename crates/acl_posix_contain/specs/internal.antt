-- What only the code of this library and its proofs need; no public clause cites it.

-- at which entries the access check looks, and which permissions stay under a bound
pub mod Limits
