-- The names that the proofs of this crate use most, from std, from the crates below and from specs/, in one place.
pub use Rattle.acl_perm.proofs.Bools.{and_true, and_true_right, both_hold, or_true, or_true_right, same_answers}
pub use Rattle.acl_perm.proofs.LineLemmas.{lines_left, lines_next, no_lines, NumberFits, text_left}
pub use Rattle.acl_perm.proofs.PieceLemmas.{IsOut, next_fits, out_all, out_cut, out_more, out_none, written_both}
pub use Rattle.acl_perm.specs.Bits.{IsPerm}
pub use Rattle.acl_perm.specs.Lines.{before_mark, ColumnsFit, end_trimmed, is_all_blank, is_blank, IsCut, IsCutRest, IsLineCut, lines_of, Span, span_of, spans, start_of}
unfoldable pub use Rattle.acl_perm.specs.Lines.{cut_at, trimmed}
pub use Rattle.acl_perm.specs.Pieces.{WritesFrom}
pub use Rattle.acl_perm.specs.Shown.{perm_text}
pub use Rattle.acl_perm.specs.declared.lines.Piece.{Piece}
pub use Rattle.acl_perm.specs.internal.Steps.{◌>>=◌}
pub use Rattle.acl_posix.specs.Check.{any_contains, any_matches, contains, entry_contains, ids, is_contained, tag_matches}
pub use Rattle.acl_posix.specs.Entries.{as_set, Entries, IsEntry, IsSorted, pair_of, pairs, tags}
pub use Rattle.acl_posix.specs.Equal.{acls_of, default_acls, same_entry, same_file, same_set}
pub use Rattle.acl_posix.specs.Fields.{id_in, is_default}
unfoldable pub use Rattle.acl_posix.specs.Fields.{id_of, permissions_of, word_of}
pub use Rattle.acl_posix.specs.Grammar.{access_of, colon, default_of, EntryFields, HasEntryFields, HasTag, IsAclOf, IsDefaultOf, numbered, PartEntry, pieces_of, Reads, SpellAll, Spells, SpellsTag, TextPiece, three_of}
unfoldable pub use Rattle.acl_posix.specs.Grammar.{fields_of, line_pieces}
pub use Rattle.acl_posix.specs.Id.{greatest_id, IsId}
pub use Rattle.acl_posix.specs.Mask.{class_union, effective_of, masked_by, with_mask}
pub use Rattle.acl_posix.specs.Mode.{chmoded, group_class, mode_of, with_mode}
pub use Rattle.acl_posix.specs.Names.{AreIds, Ids, is_number, IsNameTable, Table}
pub use Rattle.acl_posix.specs.Tag.{group, group_obj, is_masked, is_named, IsTag, mask, other, qualifier, rank, Tag, tag_cmp, tag_of, tag_row, user, user_obj}
pub use Rattle.acl_posix.specs.TextFault.{acl_fault, IsFirstInvalid, IsFirstTextFault, IsInvalidText, IsPieceFault, IsPlace, IsTextFault, IsTextFaultOrMemory, IsTextRefusedWith, MayName, qualifier_names}
pub use Rattle.acl_posix.specs.Texts.{default_entries, default_mark, entry_text, form_text, IsAcl, IsDefault, IsFile, line, long_word, mark_text, qualifier_text, short_word, word_text}
unfoldable pub use Rattle.acl_posix.specs.Texts.{canonical_text, effective_mark, long_default, long_entry}
unfoldable pub use Rattle.acl_posix.specs.Texts.{short_default, short_entry, short_text, shown_text}
pub use Rattle.acl_posix.specs.Valid.{is_refusal, IsDistinct, IsFaultOf, IsFaultOfSet, IsFirstRepeat, IsMiss, IsRefusedWith, IsRepeat, IsValid, IsValidList, tag_at}
unfoldable pub use Rattle.acl_posix.specs.Valid.{missing}
pub use Rattle.acl_posix.specs.declared.entry.Entry.{Entry}
pub use Rattle.acl_posix.specs.declared.fault.AclFault.{AclFault}
pub use Rattle.acl_posix.specs.declared.fault.AclFault.TheVariants.{Duplicate, Memory, Miss, Multi}
pub use Rattle.acl_posix.specs.declared.field.TagWord.{TagWord}
pub use Rattle.acl_posix.specs.declared.field.TagWord.TheVariants.{Group, User}
pub use Rattle.acl_posix.specs.declared.file.PosixFile.{PosixFile}
pub use Rattle.acl_posix.specs.declared.form.AclTextForm.{AclTextForm}
pub use Rattle.acl_posix.specs.declared.form.AclTextForm.TheVariants.{Canonical, Short, Shown}
pub use Rattle.acl_posix.specs.declared.id.Id.{Id}
pub use Rattle.acl_posix.specs.declared.tag.Tag.{Tag as TagOfCode}
pub use Rattle.acl_posix.specs.declared.text_fault.Part.{Part}
pub use Rattle.acl_posix.specs.declared.text_fault.Part.TheVariants.{Access, Default}
pub use Rattle.acl_posix.specs.declared.text_fault.TextFault.{TextFault}
pub use Rattle.acl_posix.specs.internal.GroupSearch.{group_contains}
pub use Rattle.acl_posix.specs.internal.NameMaps.{ids_of}
pub use Rattle.acl_posix.specs.internal.Packed.{IsPacked}
unfoldable pub use Rattle.acl_posix.specs.internal.Packed.{packed, unpacked}
pub use Rattle.acl_posix.specs.internal.Reading.{added, FailsWith, IsPartFault, Lists, lists_of, no_lists, pieces_from, read_both, ReadsOn, tag_alone, tag_with}
unfoldable pub use Rattle.acl_posix.specs.internal.Reading.{read_permissions, read_piece, read_pieces}
unfoldable pub use Rattle.acl_posix.specs.internal.Reading.{read_tag, read_word}
pub use Rattle.acl_posix.specs.internal.RepeatFault.{repeat_fault}
pub use Rattle.acl_posix.specs.internal.Search.{IsGap, IsTagAt}
pub use Rattle.acl_posix.specs.internal.TagCode.{code_cmp, codes_total, tag_again, tag_from, tags_total}
pub use Rattle.acl_posix.specs.internal.Writing.{ending, entry_lead, form_word, IsPut, part_limit, part_out, text_out}
unfoldable pub use Rattle.acl_posix.specs.internal.Writing.{entry_out}
pub use Rattle.acl_posix.specs.internal.WrittenLine.{IsEntryBefore, IsFirstLine, IsIdBefore, IsPermBefore, letter_of}
pub use Rattle.std.proofs.Common.{ap, append-nil, append_assoc, arith, Bool, Bor, cond, drop, eqb, Err, false, get_or, inl, inr, length, length-append, length-drop, length-take, List, None, Ok, Option, refl, Result, rules, set, slice_index_or, Some, subst, suc, sym, take, true, zero, ℕ, [], ◌%◌, ◌*◌, ◌++◌, ◌+◌, ◌-◌, ◌/◌, ◌<◌, ◌^◌, ◌∙◌, ◌∷◌, ◌≡◌, ◌≤◌}
pub use Rattle.std.proofs.Math.Seq.{get_or-take, take-append_seam}
pub use Rattle.std.proofs.lemmas.Bool.{cases_lt, cond_both, eq-eqb, eqb-true, false_from_ne_true}
pub use Rattle.std.proofs.lemmas.Bool.Decides.{Decides-eqb, nat_tests}
pub use Rattle.std.proofs.lemmas.Cmp.{tied_itself}
pub use Rattle.std.proofs.lemmas.Fmt.{decimal_by_steps, decimal_is_IsNumeral, length-decimal-le}
pub use Rattle.std.proofs.lemmas.Grind.{flat_map-append}
pub use Rattle.std.proofs.lemmas.List.{drop_all, drop_more, get_or-map, get_or_default, length-map, length-take-le, map-append, map-set, nil_from_length, take-append-drop, take_all, take_rest}
pub use Rattle.std.proofs.lemmas.List.Elements.{All-append, All-from_recursion, All-get_or, All-map, All-push, All-weaker, recursion_from_All}
pub use Rattle.std.proofs.lemmas.List.Folds.{Any-from_list_any, flat_map-map, list_all-append, list_all_more, list_any_at, list_any_more, map_fixed}
pub use Rattle.std.proofs.lemmas.List.Sorted.{All-permutation, answers_always, Contains-permutation, IsNonDecreasingBy-from_sort, IsPermutation-map, IsPermutation-sym, searchable_from_sorted}
pub use Rattle.std.proofs.lemmas.List.Splits.{length-slice_split, slice_split_at, slice_split_none}
pub use Rattle.std.proofs.lemmas.List.Sums.{AllPass-from_list_all, list_all-from_AllPass}
pub use Rattle.std.proofs.lemmas.Map.Keys.{apart_from_distinct, IsDistinct-from_apart, IsDistinct-from_sorted, IsDistinct-IsPermutation, Less-from_sorted, sorted_from_all_adjacent, sorted_tail}
pub use Rattle.std.proofs.lemmas.Result.{err_from_is_err_and, on_ok_weaker}
pub use Rattle.std.proofs.lemmas.Simd.{map-map}
pub use Rattle.std.proofs.lemmas.Slice.Eq.{slice_eq-Decides, strip_prefix_is}
pub use Rattle.std.specs.BTreeMap.{insert_entry, is_at}
pub use Rattle.std.specs.Char.{digit_value, is_ascii_digit}
pub use Rattle.std.specs.Cmp.{eq_by_cmp_equiv, unsigned_Decides}
pub use Rattle.std.specs.Cmp.Lexicographic.{nat_list_cmp_total, pointwise, slice_cmp}
pub use Rattle.std.specs.FinMap.{find, get-from_entries, IsAntisymmetric, nat_cmp-IsAntisymmetric, same_map, slice_cmp-IsAntisymmetric}
pub use Rattle.std.specs.FinMap.Entries.{below_all, by_order, find-put, find-where_key, is_sorted-where_key, where_key}
pub use Rattle.std.specs.Global.{Vec}
pub use Rattle.std.specs.List.{All, AllByRecursion, filter, flat_map, fold, IsAllAdjacentAnswer, join_with_byte, list_all, list_any, position_or_len, slice_split}
pub use Rattle.std.specs.List.Sorted.{IsBinarySearchResult, IsNonDecreasing, IsPermutation, IsSearchInRange, IsSortedBy}
unfoldable pub use Rattle.std.specs.List.Sorted.{IsStrictlySortedBy}
pub use Rattle.std.specs.Map.{lookup}
pub use Rattle.std.specs.Ordering.{eq_by_cmp, is_eq, is_lt, nat_cmp, ordering_then}
pub use Rattle.std.specs.Prelude.{bit_and, bit_or, codes, decimal, IfErr, IfOk, IfSome, insert, is_some, IsErr, IsErrAnd, IsSome, IsTrue, map, MatchOption, MatchResult, nat_eq, nat_le, nat_lt, not, OnErr, OnOk, option_map, T, unwrap_or, ◌&&◌, ◌==◌, ◌||◌, ◌↔◌, ◌⊎◌}
pub use Rattle.std.specs.Str.Parse.{AllDigits, digits_value}
pub use Rattle.std.specs.declared.cmp.Ordering.{Ordering}
pub use Rattle.std.specs.declared.cmp.Ordering.TheVariants.{Equal, Greater, Less}
pub use Rattle.acl_perm.proofs.Cuts.{end_trimmed-push_blank, not_feed}
pub use Rattle.acl_perm.proofs.Orders.{is_less, passes_less}
pub use Rattle.acl_posix.specs.internal.Digits.{AreFirstDigits, most_digits}
