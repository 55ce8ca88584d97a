-- The lemmas that the proofs of the crates above use. A directory that has the name of a module is not seen from there.
pub use Rattle.acl_nfs4.proofs.feed.Completion.{begins, who_bounds as stage_bounds}
pub use Rattle.acl_nfs4.proofs.feed.Exactly.{nothing_cut, one_reason}
pub use Rattle.acl_nfs4.proofs.feed.Held.{short_rest}
pub use Rattle.acl_nfs4.proofs.feed.Judging.{judges}
pub use Rattle.acl_nfs4.proofs.feed.Pieces.{breaks_whole, fault_stays}
pub use Rattle.acl_nfs4.proofs.list.Push.{each_push}
pub use Rattle.acl_nfs4.proofs.list.RenamedLists.{account_is_who}
pub use Rattle.acl_nfs4.proofs.list.Whos.{is_who-decimal, is_who-everyone, is_who-group, is_who-owner}
pub use Rattle.acl_nfs4.proofs.list.Within.{accepted_where_it_fits, bit_within, code_profile, contains_again, contains_is, each_of, fits_of, union_within, within_le, within_part}
pub use Rattle.acl_nfs4.proofs.names.SetFields.{or_assoc}
pub use Rattle.acl_nfs4.proofs.names.Tables.{and_or, bit_missing}
pub use Rattle.acl_nfs4.proofs.plain_ascii.PlainText.{all_weaker, text_tests}
pub use Rattle.acl_nfs4.proofs.text.AceLines.{one_list}
pub use Rattle.acl_nfs4.proofs.text.AceWritten.{plain_who, text_again}
pub use Rattle.acl_nfs4.proofs.xdr.AcesAt.{regrouped}
pub use Rattle.acl_nfs4.proofs.xdr.AnyLists.{type_again, type_is}
pub use Rattle.acl_nfs4.proofs.xdr.Body.{kind_of_type-number}
pub use Rattle.acl_nfs4.proofs.xdr.Faults.{weight-push}
pub use Rattle.acl_nfs4.proofs.xdr.Resume.{one_spelling as one}
pub use Rattle.acl_nfs4.proofs.xdr.Fields.{IsBytes-drop, IsBytes-take, Takes, Takes-then, bind-ok, bind_then, bytes_append, bytes_are_zeros, count_again, count_is, guard_ok, kind_again, kind_is, kind_lt, len_bounds, ok, ok_is, place, who_bounds, zeros_again}
pub use Rattle.acl_nfs4.proofs.xdr.Lengths.{spelling_short}
pub use Rattle.acl_nfs4.proofs.xdr.Lists.{front_accepted, weight-cons}
pub use Rattle.acl_nfs4.proofs.xdr.FirstPassing.{none_passes}
pub use Rattle.acl_nfs4.proofs.xdr.UnknownNames.{name_inserted}
pub use Rattle.acl_nfs4.proofs.xdr.OneFault.{never_truncated, value_or_fault}
