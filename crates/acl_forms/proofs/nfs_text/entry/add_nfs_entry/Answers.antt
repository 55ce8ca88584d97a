use Rattle.std.proofs.Common.{inr}
use Rattle.acl_perm.specs.Lines.{span_of}
use Rattle.acl_nfs4.proofs.Exits.{exit_is}
use Rattle.acl_forms.proofs.NfsLemmas.{bad_nfs_ace, bad_nfs_fields, good_nfs_ace}
use Rattle.acl_forms.specs.internal.NfsReading.{entry_ace, entry_viewed}
use Rattle.acl_forms.proofs.nfs_text.entry.add_nfs_entry.Goals as goal

pub returns-in_err-fields : goal.returns-in_err-fields
returns-in_err-fields c =
    rw (exit_is c.from_residual.result c.from_residual.ensures.1)
    (inr (bad_nfs_fields c.args.source c.args.acl.now (span_of c.args.entry) _
    (rw c.len.ensures at c.in_err-fields.ensures.exact)))

pub returns-in_err-item : goal.returns-in_err-item
returns-in_err-item c =
    rw (exit_is c.from_residual-in_err-item.result c.from_residual-in_err-item.ensures.1)
    (inr (bad_nfs_ace c.args.source c.args.acl.now (span_of c.args.entry) (entry_viewed c.in_ok-fields.fields) _
    (rw c.len.ensures at c.in_ok-fields.ensures.exact) c.in_err-item.ensures))

pub returns : goal.returns
returns c =
    let read = good_nfs_ace c.args.source c.args.acl.now (span_of c.args.entry) (entry_viewed c.in_ok-fields.fields)
    (entry_ace c.in_ok-item.item) (rw c.len.ensures at c.in_ok-fields.ensures.exact) c.in_ok-item.ensures in
    rw read c.push_at.ensures
