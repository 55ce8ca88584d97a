-- below the first new directory nothing is new, and what fits a profile does at every path
pub mod Paths
-- lists that go out one after the other
pub mod FormsOut
-- the ACEs of a normal form, written one after the other, are a list
pub mod Writing
