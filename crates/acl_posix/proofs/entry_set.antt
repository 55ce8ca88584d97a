-- entries that are read place by place
pub mod Places
-- a search that halves a list in canonical order
pub mod Halves
