-- what was emitted so far, and what completes it
pub mod SoFar
-- the keys and bits that are marked as free, by number
pub mod Marks
-- the heap of the numbers that have bits
pub mod Heaped
-- what remains of a list is short and tidy
pub mod Few
-- a walk over the places of a queue: those that wait before the first that is blocked are free
pub mod Walk
-- what becomes free when bits of a key are taken out
pub mod NewlyFree
-- all that is free, bit by bit
pub mod Filled
-- the list that is left, without its empty ACEs, and what is emitted from it
pub mod Leaving
-- which keys are free in a column without a principal
pub mod FreeWithout
-- the principal of each key of a list has a who, and what is emitted for the key names it
pub mod KeyNames
-- the loop that emits: what it keeps, what a turn does, and that it ends
pub mod Drained
-- each emitted ACE has the row of its principal
pub mod InRows
-- what remains of a list while it is emitted: masks by place, masks by row that leave a part of them, and queues of
-- places
pub mod RemainingLemmas
-- chains of links: what a link is followed by, and a new link in front of a chain
pub mod Chains
-- the queues of a list, each a chain of links: what is left of them when bits are taken out, and the walk along one
pub mod QueueChains
-- the queues of a list are made from the last place to the first, bit by bit
pub mod NotedQueues
-- what remains of a list, by its fields
pub mod InRemaining
-- a list whose keys rise is in the order of its normal form
pub mod RisingKeys
-- the numbers of the keys show whether they rise, and the list without its empty ACEs is made place by place
pub mod Risen
-- what comes first in a list, found ACE by ACE from the front
pub mod FirstOf
-- a short list: what is left of it, turn by turn
pub mod ShortTurns
