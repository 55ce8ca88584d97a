-- The names that the clauses of this crate use most, in one place: of std, of the crates below, and of this crate (this
-- library's own).
pub use Rattle.acl_eval.specs.Column.{column}
pub use Rattle.acl_eval.specs.Grant.{SameGrants}
pub use Rattle.acl_nfs4.specs.Ace.{Ace, ace}
pub use Rattle.acl_nfs4.specs.Spelling.{IsAccepted, spelling}
pub use Rattle.acl_nfs4.specs.Who.{principal_of}
pub use Rattle.acl_nfs4.specs.Within.{IsProfile}
pub use Rattle.acl_normal.specs.Classes.{is_users}
pub use Rattle.acl_normal.specs.FiveForms.{five_spellings}
pub use Rattle.acl_normal.specs.Keys.{kind_eq, plain_key, principal_eq}
pub use Rattle.acl_normal.specs.Left.{IsLowest, left}
pub use Rattle.acl_normal.specs.Normal.{flags_for, is_free, IsIrreducibleList, IsNormal}
pub use Rattle.acl_normal.specs.NormalForm.{IsNormalFormOf, Normalizes}
pub use Rattle.acl_normal.specs.Places.{nothing_left, take_out}
pub use Rattle.acl_normal.specs.Tables.{of_borrowed}
pub use Rattle.acl_normal.specs.internal.Counts.{count_left}
pub use Rattle.acl_normal.specs.internal.Needed.{default_at}
pub use Rattle.acl_normal.specs.internal.Passes.{KeepsProfiles}
pub use Rattle.acl_normal.specs.internal.Places.{bit_count, is_blocked, key_here, kind_here, mask_here, principal_here, slot_count, slot_of, waits_before}
pub use Rattle.acl_normal.specs.internal.Plain.{default, needed_keys, unshadowed}
pub use Rattle.acl_normal.specs.internal.Reduced.{IsReducedOf, IsThinned}
pub use Rattle.acl_normal.specs.internal.Shown.{aces_in, aces_with, mask_numbers, with_masks}
pub use Rattle.acl_normal.specs.internal.Tidy.{IsTidy}
pub use Rattle.acl_normal.specs.internal.comparison.CodeSets.{set_of, set_or_none}
pub use Rattle.acl_normal.specs.internal.comparison.FirstPlaces.{AreWhoms}
pub use Rattle.acl_normal.specs.internal.comparison.Members.{AreNumbered, is_matched, members_of, members_or_none}
pub use Rattle.acl_normal.specs.internal.comparison.MentionedRows.{AreMentioned}
pub use Rattle.acl_normal.specs.internal.comparison.SetSearch.{GrantAlikeTo, IsGrantedTo, principals}
pub use Rattle.acl_normal.specs.internal.comparison.TwoLists.{all_mentioned, AreAlikeTo, FindSet, two_lists}
pub use Rattle.acl_normal.specs.internal.emit.Emissions.{IsEmission}
pub use Rattle.acl_normal.specs.internal.emit.Emitted.{emitted_ace, emitted_aces, AreInRows}
pub use Rattle.acl_normal.specs.internal.emit.Queues.{AreQueues}
pub use Rattle.acl_normal.specs.internal.emit.Rising.{all_cleared, IsRising}
pub use Rattle.acl_normal.specs.internal.rows.Remaining.{IsNumbered}
pub use Rattle.acl_normal.specs.internal.rows.Rows.{AreRowNumbers, first_place_of, is_principal_of, IsRowOf}
pub use Rattle.acl_perm.specs.Bits.{all_rights, has_bit}
pub use Rattle.acl_perm.specs.Principal.{everyone, is_user, Principal, principal}
pub use Rattle.acl_perm.specs.Profile.{full, Profile}
pub use Rattle.std.specs.Bool.{OnFalse, OnTrue}
pub use Rattle.std.specs.List.{AllByRecursion}
pub use Rattle.std.specs.Ordering.{nat_cmp}
pub use Rattle.std.specs.Prelude.{[], bit_or, false, IfNone, IfOk, IfSome, IsOk, IsTrue, length, List, map, not, OnOk, option_map, replicate, slice_index_or, Some, true, vec_len, ℕ}
