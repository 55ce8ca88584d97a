-- keys that go up in a column
pub mod Moved
-- the columns of a list in which an ACE is joined into an earlier one
pub mod Columns
-- the ends of the ACEs that pass a test, and lists without a join
pub mod Ends
-- what the ends show about the ACEs after a place
pub mod Between
-- one ACE more of a list
pub mod Steps
-- the numbers of principals, and the tables before the first ACE
pub mod Starting
-- the state of the pass over a list
pub mod Passing
-- the ACEs with needed rights, and what the whole pass makes
pub mod Whole
