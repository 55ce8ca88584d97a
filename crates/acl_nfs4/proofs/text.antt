pub mod AceFields
pub mod AceJudged
pub mod AceLines
pub mod AceWritten
pub mod AcePlaces
