pub mod PlainLanes
pub mod PlainText
