-- when a list of entries lacks MASK
pub mod Lacking
