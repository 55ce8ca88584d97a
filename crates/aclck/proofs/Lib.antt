pub mod LineLemmas
pub mod TableLemmas
pub mod CheckNfsLemmas
pub mod ValueLemmas
pub mod NameLemmas
pub mod ShowLemmas
pub mod ListInputLemmas
pub mod FeedLemmas
pub mod CommandLemmas
mod Vectors
pub mod ListTextLemmas
pub mod InputLemmas
pub mod NormalFormLemmas
pub mod PathLemmas
pub mod CompareLemmas
pub mod WritingLemmas
