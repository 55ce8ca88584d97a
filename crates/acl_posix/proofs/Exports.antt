-- The lemmas that the proofs of the crates above use. A directory that has the name of a module is not seen from there.
pub use Rattle.acl_posix.proofs.attribute.ReadBack.{again, bytes_length, not_above, sorted_rises, stored}
pub use Rattle.acl_posix.proofs.digits.DigitLemmas.{bytes_eq-unequal, digit_more, not_decimal}
pub use Rattle.acl_posix.proofs.excess.Exceeding.{none_contains}
pub use Rattle.acl_posix.proofs.group_answers.Answering.{contained_some}
pub use Rattle.acl_posix.proofs.reader.Limits.{file_of_text}
pub use Rattle.acl_posix.proofs.reader.Lines.{size_left}
pub use Rattle.acl_posix.proofs.reader.Settled.{apart, back, default_one, one_file}
pub use Rattle.acl_posix.proofs.sorted.Groups.{any_contains-from_entry, any_group, contains_empty}
pub use Rattle.acl_posix.proofs.sorted.Lists.{all_entries, entries_in_order, entries_sorted, set_of, tag_within}
pub use Rattle.acl_posix.proofs.sorted.OneEntry.{eq_by_cmp-refl, unnamed_is_not_named}
pub use Rattle.acl_posix.proofs.sorting.ValidLists.{no_fault, one_fault, same_first, same_miss, sorted_distinct}
pub use Rattle.acl_posix.proofs.tag.Tags.{is_none, less_rises, number, qualifier_below, rank_below, same_tag}
pub use Rattle.acl_posix.proofs.writer.ReadBack.{canonical_reads}
pub use Rattle.acl_posix.proofs.writer.WrittenEntries.{perm_again, perm_pass}
