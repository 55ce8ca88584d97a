-- What only the code and its proofs need (this library's own).
-- Reading: how one list and two are read from pulls
-- Files: why the file of a text was not read
-- Writing: how much of a text was written
-- Compared: the text of what `acl_normal` answers
-- Held: a command's arguments in the program
-- Adding: names that are cut out of words and added to a table
-- Performing: the result of a command line, from which the status is made
pub mod Reading
pub mod Files
pub mod Writing
pub mod Compared
pub mod Held
pub mod Adding
pub mod Performing
