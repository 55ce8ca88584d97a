pub mod IdNames
