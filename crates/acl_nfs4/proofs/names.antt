pub mod Shown
pub mod SetFields
pub mod Tables
