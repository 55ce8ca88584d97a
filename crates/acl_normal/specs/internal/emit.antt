-- What the emission of a normal form and its proofs need (this library's own); no public clause cites it.

-- lists that are put into order key by key
pub mod Emissions
-- an ACE of a normal form as it is made
pub mod Emitted
-- how the heap of the numbers of ready keys relates to their marked rights
pub mod Heaped
-- queues of the places that wait, as chains of links
pub mod Queues
-- the keys that have a free right, by number
pub mod Ready
-- lists whose keys rise
pub mod Rising
-- the emission of a short list
pub mod Short
