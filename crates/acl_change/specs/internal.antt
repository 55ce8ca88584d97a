-- What only the code and its proofs need (this library's own): no clause of a public call cites it.

-- up to three ACEs of the code, one after the other
pub mod UpToThree
