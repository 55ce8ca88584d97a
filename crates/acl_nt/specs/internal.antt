-- What only the code and its proofs need (this library's own): no clause of a public call cites it.

-- what a reader of a part has read
pub mod Parts
