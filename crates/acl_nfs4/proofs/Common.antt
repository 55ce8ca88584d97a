-- The names that the proofs of this crate use most, from std, from the crates below and from specs/, in one place.
pub use Rattle.acl_nfs4.specs.AccessPart.{kind_of_type}
pub use Rattle.acl_nfs4.specs.Ace.{Ace, ace}
pub use Rattle.acl_nfs4.specs.AceText.{ace_lines, ace_text, as_text, HasLineFields, HasNoSpace, is_skipped, IsAceText, kind_name, LineFields, space, SpellEach, SpellsAce, TextLine}
unfoldable pub use Rattle.acl_nfs4.specs.AceText.{ace_line}
pub use Rattle.acl_nfs4.specs.AceTextFault.{IsAceTextFault, IsAt, IsFlagged, IsLight, IsLineFault, IsMasked, IsSplit, IsTextRefusal, IsTyped, mask_column, who_column}
pub use Rattle.acl_nfs4.specs.BitNames.{bar, bit_in, BitName, bits_in, first_name, is_name_of, names_of, no_names, rows_of, SpellsSet}
unfoldable pub use Rattle.acl_nfs4.specs.BitNames.{set_named, set_text}
pub use Rattle.acl_nfs4.specs.Fault.{Border, Breaks, IsFault, IsFirstFault, IsOwed, IsWholeFault, refuses, size, Stage}
pub use Rattle.acl_nfs4.specs.Fault.Border.{counted, flagged, masked, measured, named, padded, start, typed}
pub use Rattle.acl_nfs4.specs.Fault.IsWholeFault.{behind, of_value}
pub use Rattle.acl_nfs4.specs.Fields.{count_of, flags_of, kind_of, mask_of, number, padding_of, unless, who_len_of, who_of, who_reason}
pub use Rattle.acl_nfs4.specs.FlagNames.{flag_names}
pub use Rattle.acl_nfs4.specs.Laws.{BeginsSpelling, bits_of, pairs_at, pairs_of}
pub use Rattle.acl_nfs4.specs.Limits.{longest_who, most_aces, most_weight}
pub use Rattle.acl_nfs4.specs.Owned.{IsOwned, list_cmp}
pub use Rattle.acl_nfs4.specs.Rights.{mask_named, rights, SpellsMask}
pub use Rattle.acl_nfs4.specs.Spelling.{Fits, IsAccepted, IsAce, pad_len, piece, spelling, weight, word, Xdr}
pub use Rattle.acl_nfs4.specs.Stream.{Decodes, FaultsOrFails, FedExactly, Feeds, FeedsEach, further, HoldsLittle, IsCutShort, IsOrFails, IsSmall, no_memory, RefusesStream, SameOrFails, StreamState, together}
pub use Rattle.acl_nfs4.specs.Stream.StreamState.{done, more, refused}
pub use Rattle.acl_nfs4.specs.Who.{ends_in_at, is_no_who_len, is_plain, is_unknown_special, IsWho, who_fault}
pub use Rattle.acl_nfs4.specs.Within.{is_within, IsProfile, IsWithin}
pub use Rattle.acl_nfs4.specs.declared.feed.fed.Fed.{Fed}
pub use Rattle.acl_nfs4.specs.declared.feed.scan.Progress.{Progress}
pub use Rattle.acl_nfs4.specs.declared.text.fault.AceTextFault.{AceTextFault}
pub use Rattle.acl_nfs4.specs.declared.who.WhoFault.{WhoFault}
pub use Rattle.acl_nfs4.specs.declared.xdr.fault.Fault.{Fault}
pub use Rattle.acl_nfs4.specs.declared.xdr.fault.Reason.{Reason}
pub use Rattle.acl_nfs4.specs.declared.xdr.fault.Reason.TheVariants.{Read, TrailingBytes, Truncated}
pub use Rattle.acl_nfs4.specs.internal.AceReading.{ace_lines_from, after_flags, after_kind, after_mask, cut_space, FailsAs, if_light, last_fields, read_ace_fields, who_fault_at, who_judged}
unfoldable pub use Rattle.acl_nfs4.specs.internal.AceReading.{kind_named, line_fields, read_ace, read_lines}
pub use Rattle.acl_nfs4.specs.internal.Body.{aces_of, IsBody, IsList, SpellsBody}
pub use Rattle.acl_nfs4.specs.internal.Cursor.{place}
pub use Rattle.acl_nfs4.specs.internal.NameTable.{ace_line_room, bit_name_of, bit_names_of, is_rising, IsFieldCut, joined_names, parts_after, row_room, set_if_within, size_after}
unfoldable pub use Rattle.acl_nfs4.specs.internal.NameTable.{set_within}
pub use Rattle.acl_nfs4.specs.internal.Progress.{behind_scanned, body_in, EndsPart, HasTaken, IsBytes, IsFeed, IsProgress, IsScanned, IsText, IsWhole, Judged, state_of}
pub use Rattle.acl_nfs4.specs.internal.Pulling.{DrawsCount, HasAce, HasEnded, HasKindAndFlags, HasWords, IsCutIn, IsDrawn, IsFilled, IsHalted, IsLacking, IsPulled, IsShort}
pub use Rattle.acl_nfs4.specs.internal.Reading.{ArePlain, fault_at, field, from_flags, from_len, from_mask, from_padding, from_who, Gives, is_plain_ascii, judged, moved, Place, Placed, word_field}
unfoldable pub use Rattle.acl_nfs4.specs.internal.Reading.{ace_at, aces_at, read_list}
pub use Rattle.acl_perm.proofs.Bools.{and_true}
pub use Rattle.acl_perm.proofs.LineLemmas.{lines_left, lines_next, no_lines, number_next, NumberFits, text_left}
pub use Rattle.acl_perm.proofs.Meetings.{bytes_eq_same, itself as name_self}
pub use Rattle.acl_perm.proofs.PieceLemmas.{IsOut, out_cut, out_more}
pub use Rattle.acl_perm.proofs.Sets.{has_bit-and, has_bit-or, IsMask-union, same_set}
pub use Rattle.acl_perm.specs.Bits.{all_flags, all_rights, has_bit, IsMask}
pub use Rattle.acl_perm.specs.Kind.{kind_number}
pub use Rattle.acl_perm.specs.Profile.{full, Profile, profile_of}
pub use Rattle.acl_perm.specs.declared.kind.Kind.{Kind}
pub use Rattle.acl_perm.specs.declared.kind.Kind.TheVariants.{Allow, Deny}
pub use Rattle.acl_perm.specs.declared.mask.Mask.{Mask}
pub use Rattle.acl_perm.specs.internal.Steps.{◌>>=◌}
pub use Rattle.std.proofs.Common.{add-one, ap, append-nil, append_assoc, arith, Bool, Bor, cond, drop, eqb, Err, false, get_or, inl, inr, IsTrue, leb, length, length-append, List, ltb, Ok, refl, Result, rules, subst, suc, sym, take, true, w8, zero, ℕ, [], ⊎_elim, ◌%◌, ◌*◌, ◌++◌, ◌+◌, ◌-◌, ◌/◌, ◌<◌, ◌^◌, ◌∙◌, ◌∷◌, ◌≡◌, ◌≢◌, ◌≤◌}
pub use Rattle.std.proofs.KnownBytes.{Consumes-nil, Consumes-trans}
pub use Rattle.std.proofs.Math.Seq.{take-add, take-append-add}
pub use Rattle.std.proofs.lemmas.Bool.{cases_lt, eq-eqb, eqb-true, false_from_ne_true, le-leb, le-ltb, leb-false, leb-true, lt-ltb, ltb-false, ltb-true, not-true, or_from}
pub use Rattle.std.proofs.lemmas.Bool.Decides.{eqb_tells, nat_tests}
pub use Rattle.std.proofs.lemmas.List.{drop-append-le, drop-take, drop_all, drop_at, get_or-append_right, get_or-drop, get_or-replicate, get_or-take, get_or_append_left, get_or_default, get_or_past, length-drop, length-map, length-replicate, length-take, length-take-le, take-append-drop, take-append-le, take-replicate, take-take, take_all, take_at, take_rest}
pub use Rattle.std.proofs.lemmas.List.Concat.{flat_map-cons}
pub use Rattle.std.proofs.lemmas.List.Elements.{All-from_all_within, All-from_get_or, All-replicate, All-weaker}
pub use Rattle.std.proofs.lemmas.List.Folds.{list_all-append}
pub use Rattle.std.proofs.lemmas.List.Splits.{join_with_byte-slice_split, length-slice_split, slice_split_at, slice_split_first, slice_split_none}
pub use Rattle.std.proofs.lemmas.List.Sums.{AllPass-from_list_all, length-filter, list_all-from_AllPass, sum_by-append, sum_by-cons, sum_by_push}
pub use Rattle.std.proofs.lemmas.Nat.{and_comm, and_le_l, and_le_r, and_mask, be_bytes_4, from_be_bytes-to_be_bytes_4, ones_le_self}
pub use Rattle.std.proofs.lemmas.Nat.Bits.{and_pow, bit_at-lt, bit_at-suc, bit_at_lowest}
pub use Rattle.std.proofs.lemmas.Option.{same_Some}
pub use Rattle.std.proofs.lemmas.Str.{is_utf8-from_IsUtf8, IsUtf8-from_ascii, IsUtf8-from_is_utf8}
pub use Rattle.std.proofs.lemmas.Str.Ascii.{IsAscii-from_all}
pub use Rattle.std.specs.Int.{bit_at}
pub use Rattle.std.specs.Int.Bits.{and_zero_r, or_zero_l, or_zero_r}
pub use Rattle.std.specs.Int.Count.{count_trailing_zeros, ones-le, ones_step}
pub use Rattle.std.specs.Io.KnownBytes.{Consumes, IsAtEnd}
pub use Rattle.std.specs.List.{All, AllByRecursion, concat, enumerate_from, flat_map, join_with_byte, list_all, position_or_len, prefix_len, range_with_len, slice_split}
pub use Rattle.std.specs.Option.{option_and_then, option_map_or}
pub use Rattle.std.specs.Prelude.{bit_and, bit_or, count_by, count_ones, find, IfErr, IfOk, IfSome, IsOkAnd, IsSome, IsSomeAnd, map, MatchResult, nat_le, nat_lt, None, not, ok_or, Option, option_copied, option_map, position, replicate, Some, ◌&&◌, ◌==◌, ◌↔◌, ◌⊎◌}
pub use Rattle.std.specs.Str.{bytes_eq, is_utf8, IsUtf8}
pub use borrow.Rule.Slice.PartMut.{post_of, put_mid, same_len_mid}
