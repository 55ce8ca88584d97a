pub mod ListChmod
pub mod ChmodAccepted
pub mod ChmodAces
pub mod ChmodGrants
pub mod ChmodChildren
pub mod ResolvedLists
