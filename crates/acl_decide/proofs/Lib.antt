pub mod DecidingSearches
pub mod Unknowns
pub mod UnknownMasks
pub mod Assignments
pub mod Requests
pub mod NameNumbers
pub mod RightsOf
pub mod Memberships
