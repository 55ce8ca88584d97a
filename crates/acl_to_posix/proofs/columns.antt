pub mod TagColumns
pub mod TagMatchings
