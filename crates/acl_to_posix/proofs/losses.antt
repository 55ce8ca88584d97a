pub mod FewerMatches
pub mod LostGrants
pub mod ChosenSituations
pub mod LossTags
pub mod UnusedIds
pub mod LossSearches
pub mod LossOfLists
