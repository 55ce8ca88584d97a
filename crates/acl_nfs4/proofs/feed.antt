pub mod Completion
pub mod Scanning
pub mod Streaming
pub mod Pieces
pub mod Exactly
pub mod Held
pub mod Judging
