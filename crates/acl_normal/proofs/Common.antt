-- The names that the proofs of this crate use most, from std, from the crates below and from specs/, in one place.
pub use Rattle.acl_eval.proofs.Same.{equivalence, one_bit, only_bit}
pub use Rattle.acl_eval.proofs.Scans.{has_bit-without}
pub use Rattle.acl_eval.specs.Column.{Column, SameVerdicts, column, first_kind, takes_part, verdict}
pub use Rattle.acl_eval.specs.Grant.{SameGrants, is_allow}
pub use Rattle.acl_eval.specs.Laws.{IsEquivalence}
pub use Rattle.acl_eval.specs.Scan.{without}
pub use Rattle.acl_nfs4.proofs.Exports.{fits_of}
pub use Rattle.acl_nfs4.specs.Ace.{Ace, ace}
pub use Rattle.acl_nfs4.specs.Spelling.{Fits, IsAccepted, IsAce, spelling, weight}
pub use Rattle.acl_nfs4.specs.Who.{everyone_name, group_name, owner_name, principal_of}
pub use Rattle.acl_nfs4.specs.Within.{IsProfile, IsWithin}
pub use Rattle.acl_nfs4.specs.declared.ace.AceRef.{AceRef}
pub use Rattle.acl_normal.specs.Keys.{ColumnKey, ace_key, compare_keys, conflicts, key_record, kind_eq, plain_key, principal_eq}
pub use Rattle.acl_normal.specs.Laws.{Has}
pub use Rattle.acl_normal.specs.Left.{KeepsFirsts, left}
pub use Rattle.acl_normal.specs.Normal.{HasNoEmptyMask, HasNormalFlags, HasOnlyNeeded, IsIrreducibleList, IsNormal, counts, flags_for, is_free, is_inherit_only, without_bit}
pub use Rattle.acl_normal.specs.internal.Tidy.{HasMasks, HasNames, HaveNames, IsQuiet, IsTidy}
pub use Rattle.acl_normal.specs.NormalForm.{IsNormalFormOf}
pub use Rattle.acl_normal.specs.Places.{first_at, is_waiting, nothing_left, same_class, take_out, waits, without_bits}
pub use Rattle.acl_normal.specs.internal.Places.{is_blocked, key_here, mask_here, principal_here, slot_of, waits_before}
pub use Rattle.acl_normal.specs.SmallSets.{is_mentioning, mentioned, mentioned_in, partners, principal_pairs, singles, small_sets}
pub use Rattle.acl_normal.specs.SmallSituations.{HasName, is_among, longest, small_situation}
pub use Rattle.acl_normal.specs.Tables.{AreRows, of_borrowed, with_bit}
pub use Rattle.acl_normal.specs.internal.TableRows.{AddsRow, HasFirstPlaces, HasKey}
pub use Rattle.acl_normal.specs.declared.comparison.small_set.SmallSet.{SmallSet}
pub use Rattle.acl_normal.specs.declared.comparison.placing.Placing.{Placing}
pub use Rattle.acl_normal.specs.declared.comparison.placing.Whom.{Whom}
pub use Rattle.acl_normal.specs.declared.comparison.placing.Whom.TheVariants.{Everyone, Nobody, One}
pub use Rattle.acl_normal.specs.declared.emit.emission.Emitted.{Emitted}
pub use Rattle.acl_normal.specs.declared.rows.remaining.Remaining.TheInside.{Inside}
pub use Rattle.acl_normal.specs.internal.Alike.{IsAlike, IsIrreducible, is_either, is_either_or_everyone}
pub use Rattle.acl_normal.specs.Classes.{is_users}
pub use Rattle.acl_normal.specs.internal.comparison.CodeSets.{set_of}
pub use Rattle.acl_normal.specs.internal.Counts.{count_left}
pub use Rattle.acl_normal.specs.internal.emit.Emissions.{HasEmptyColumns, HasOnceColumns, IsEmission, IsOnce, IsStep}
pub use Rattle.acl_normal.specs.internal.emit.Emitted.{AreInRows, emitted_ace, emitted_aces}
pub use Rattle.acl_normal.specs.internal.comparison.FirstPlaces.{AgreesAt, AreFirstFrom, ArePlacings, AreWhoms, IsPlacing, IsWhom, SameAlone, first_place, inverts, inverts_any, no_ace, no_placing}
pub use Rattle.acl_normal.specs.internal.rows.Heads.{BeginsWith}
pub use Rattle.acl_normal.specs.internal.Needed.{default_at}
pub use Rattle.acl_normal.specs.internal.Passes.{KeepsProfiles, conflicts_before}
pub use Rattle.acl_normal.specs.internal.comparison.PlaceTables.{is_selected}
pub use Rattle.acl_normal.specs.internal.Plain.{default, has_opposite, is_needed, needed_keys, reduced, unshadowed, without_principal}
pub use Rattle.acl_normal.specs.internal.comparison.Directions.{differ}
pub use Rattle.acl_normal.specs.internal.emit.Queues.{AreNoted, AreQueues, IsQueueAt}
pub use Rattle.acl_normal.specs.internal.emit.Ready.{Enters, FitsKeys, Grows, Marked, key_eq, low_bits, marks, who_for}
pub use Rattle.acl_normal.specs.internal.Reduced.{IsReducedOf}
pub use Rattle.acl_normal.specs.internal.rows.Remaining.{IsQueue, IsRemaining, masks_left, remaining_of}
pub use Rattle.acl_normal.specs.internal.emit.Rising.{HasRisen, all_cleared, cleared}
pub use Rattle.acl_normal.specs.internal.rows.RowNumbers.{named_at, named_from, who_here}
pub use Rattle.acl_normal.specs.internal.rows.Rows.{AreRowNumbers, IsByPrincipal, IsRowOf, first_place_of, is_principal_of, key_number, row_of}
pub use Rattle.acl_normal.specs.internal.comparison.SamePlaces.{ArePlacesOf}
pub use Rattle.acl_normal.specs.internal.comparison.SetSearch.{FindsFirst, GrantAlikeTo, IsGrantedTo, IsRisingSet, is_granted_to, principals}
pub use Rattle.acl_normal.specs.internal.Shown.{aces_in, aces_with, mask_numbers, with_masks}
pub use Rattle.acl_normal.specs.internal.comparison.TwoLists.{FindSet, TwoLists, all_mentioned, two_lists}
pub use Rattle.acl_perm.proofs.Bools.{and_false_right, same_answers}
pub use Rattle.acl_perm.proofs.Orders.{key_order, principal_exact, principal_order}
pub use Rattle.acl_perm.proofs.Sets.{IsMask-lt, bits_from_mask, has_bit-and, has_bit-or, no_bit, same_set}
pub use Rattle.acl_perm.specs.Bits.{IsDifference, IsMask, IsSubset, IsUnion, all_rights, has_bit, identifier_group}
pub use Rattle.acl_perm.specs.Kind.{other_kind}
pub use Rattle.acl_perm.specs.Order.{kind_rank, principal_cmp, principal_name}
pub use Rattle.acl_perm.specs.Overlap.{may_overlap}
pub use Rattle.acl_perm.specs.Principal.{Principal, everyone, group, group_named, is_user, owner, principal, user}
pub use Rattle.acl_perm.specs.Profile.{Profile, full}
pub use Rattle.acl_perm.specs.Situation.{IsName, IsSituation, Situation, matches}
pub use Rattle.acl_perm.specs.declared.kind.Kind.{Kind}
pub use Rattle.acl_perm.specs.declared.kind.Kind.TheVariants.{Allow, Deny}
pub use Rattle.acl_perm.specs.declared.mask.Mask.{Mask}
pub use Rattle.acl_perm.specs.internal.Totality.{principal_total}
pub use Rattle.std.proofs.Common.{add-one, ap, append_assoc, arith, inl, inr, lit<, rules, subst, sym, ⊎_elim, ◌∙◌}
pub use Rattle.std.proofs.Math.Seq.{get_or-append_seam}
pub use Rattle.std.proofs.lemmas.Bool.{and_from, and_parts, cases_eq, cases_lt, eq-eqb, eqb-false, eqb-true, false_from_ne_true, false≢true, le-ltb, lt-ltb, ne_eqb, or_cases, or_from, or_left, or_parts, or_right}
pub use Rattle.std.proofs.lemmas.List.{append-nil, at_drop_more, drop_all, drop_more, get_or-map, get_or-replicate, get_or-set_other, get_or-set_same, get_or_append_left, get_or_default, get_or_read, length-append, length-map, length-replicate, length-set, length-take-le, map-append, take_all, take_more}
pub use Rattle.std.proofs.lemmas.Nat.Bits.{bit_at-lt, bit_at-zero, bit_at_above}
pub use Rattle.std.proofs.lemmas.Option.{same_Some}
pub use Rattle.std.proofs.lemmas.Result.{IfOk-weaker}
pub use Rattle.std.specs.BTreeMap.{is_at}
pub use Rattle.std.specs.Cmp.{nat_cmp_is}
pub use Rattle.std.specs.Cmp.Lexicographic.{slice_cmp}
pub use Rattle.std.specs.Int.{bit_at, trailing_zeros, w32}
pub use Rattle.std.specs.List.{AllByRecursion, AllZip, list_any}
pub use Rattle.std.specs.Ordering.{is_eq, is_le, is_lt, nat_cmp, ordering_reverse}
pub use Rattle.std.specs.Prelude.{All, Bool, Err, IfNone, IfOk, IfSome, IsTrue, List, None, Ok, Option, Result, Some, [], bit_and, bit_or, cond, drop, false, if◌then◌else◌, is_none, is_some, length, map, max, nat_lt, not, option_map, refl, replicate, slice_index_or, slice_set, suc, take, true, unwrap_or, vec_len, zero, ℕ, ◌%◌, ◌&&◌, ◌*◌, ◌++◌, ◌+◌, ◌-◌, ◌/◌, ◌<◌, ◌==◌, ◌^◌, ◌||◌, ◌↔◌, ◌∷◌, ◌≡◌, ◌≢◌, ◌≤◌, ◌⊎◌}
pub use Rattle.std.specs.Str.{bytes_eq}
pub use Rattle.std.specs.declared.cmp.Ordering.{Ordering}
pub use Rattle.std.specs.declared.cmp.Ordering.TheVariants.{Equal, Greater, Less}
