pub mod Exports
-- the names that most proofs import
pub mod Common
-- what holds of each element of a list, and lists that are cut at a place
pub mod Each
pub mod unique
-- the rows of a list that is its own normal form, place by place
pub mod InPlace
-- the places of the ACEs that have a right, noted by row, place by place
pub mod NotedPlaces
-- the table of one bit, row by row
pub mod Tables
-- worked lists: what the definitions make of them
pub mod Vectors
-- whos: those that do not end in `@` are names, and principals of one rank are in the order of their whos
pub mod Whoms
