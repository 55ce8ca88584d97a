-- what removals grant
pub mod Removals
-- the greatest of the removals that grant at most what a bound grants
pub mod Greatest
-- whether a right of an ALLOW stays, found by pairs of principals
pub mod Turns
-- the list whose rights stay by the rule
pub mod Chosen
-- which ALLOWs grant somebody what a bound denies, by the first ACEs that concern each principal
pub mod Excesses
-- which rights a list has kept, bit by bit and place by place
pub mod Keeping
-- which ALLOWs exceed a bound, by the numbers of principals and by tables
pub mod Naming
-- what a list grants at five paths of creations, with each ACE at its place
pub mod InPlace
-- the greatest removal at five paths, and at every path
pub mod PutBack
-- worked lists
pub mod Worked
