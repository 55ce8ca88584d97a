-- raw entries in canonical order
pub mod Views
