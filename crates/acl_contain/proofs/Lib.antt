-- the rights that a reduction leaves are those that are needed
pub mod NeededRights
-- which principals match in the questions of a list, and how many questions there are
pub mod AskedSets
-- the questions of some principals, one after the other
pub mod Enumeration
-- the questions of a list decide what it grants
pub mod QuestionLemmas
-- the list that grants some rights where another list grants one right
pub mod RightReplaced
-- the rows of a table in reverse
pub mod TurnedRows
-- the most that a list may keep under a bound
pub mod restriction
-- lists whose ACEs are joined
pub mod joins
