-- pieces and lines, one after the other, and all pieces of a text
pub mod Lines
-- one piece: its entry or its fault
pub mod Judged
-- a text spells one file or has one fault
pub mod Settled
-- what a text spells is within the limits
pub mod Limits
-- where the fault of a text is
pub mod Places
