-- The lemmas that the proofs of the crates above use. A directory that has the name of a module is not seen from there.
pub use Rattle.acl_normal.proofs.comparison.FirstPlaceLemmas.{whom_at}
pub use Rattle.acl_normal.proofs.comparison.GreatestPlaces.{any_denied, denied_over}
pub use Rattle.acl_normal.proofs.comparison.MentionedPrincipals.{all_in, among_mentioned, mentioned_named, mentioned_rising, rising_in, second_has}
pub use Rattle.acl_normal.proofs.comparison.MentionedWhoms.{whoms_cover, whoms_first, whoms_second}
pub use Rattle.acl_normal.proofs.comparison.Ordered.{below_one, rising_same}
pub use Rattle.acl_normal.proofs.comparison.PairGrants.{both_users, not_both_users, pair_granted}
pub use Rattle.acl_normal.proofs.comparison.PlacesWithin.{rows_within}
pub use Rattle.acl_normal.proofs.emit.Leaving.{column_left, masks_of_quiet}
pub use Rattle.acl_normal.proofs.reduce.Fewest.{irreducible_fewest}
pub use Rattle.acl_normal.proofs.rows.FirstPlaces.{first_by_place, first_here, has_first}
pub use Rattle.acl_normal.proofs.rows.MaskNumbers.{bits_length}
