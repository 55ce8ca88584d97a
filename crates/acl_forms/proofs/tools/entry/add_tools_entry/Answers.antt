use Rattle.std.proofs.Common.{inr, refl, ◌∙◌}
use Rattle.acl_perm.specs.Lines.{span_of}
use Rattle.acl_nfs4.specs.Ace.{ace}
use Rattle.acl_forms.specs.internal.TextReading.{fields_viewed}
use Rattle.acl_forms.proofs.EntryLemmas.{bad_fields, good_fields, no_fields, push_fails}
use Rattle.acl_nfs4.proofs.Exits.{exit_is}
use Rattle.acl_forms.proofs.tools.entry.add_tools_entry.Goals as goal

pub returns-in_err-fields : goal.returns-in_err-fields
returns-in_err-fields c =
    rw (exit_is c.from_residual.result c.from_residual.ensures.1)
    (inr (no_fields c.args.object c.args.acl.now (span_of c.args.entry) _
    (rw c.len.ensures at c.in_err-fields.ensures.exact)))

pub returns-in_err-item : goal.returns-in_err-item
returns-in_err-item c =
    rw (exit_is c.from_residual-in_err-item.result c.from_residual-in_err-item.ensures.1)
    (inr (bad_fields c.args.object c.args.acl.now (span_of c.args.entry) (fields_viewed c.in_ok-fields.fields) _
    (rw c.len.ensures at c.in_ok-fields.ensures.exact) c.in_err-item.ensures))

pub returns-in-Ok : goal.returns-in-Ok
returns-in-Ok c =
    let read = good_fields c.args.object c.args.acl.now (span_of c.args.entry) (fields_viewed c.in_ok-fields.fields)
    (ace c.in_ok-item.item) (rw c.len.ensures at c.in_ok-fields.ensures.exact) c.in_ok-item.ensures in
    (ace c.in_ok-item.item, read ∙ rw c.in-Ok.ensures.fault refl, c.in-Ok.ensures.ok)

pub returns-in-Err : goal.returns-in-Err
returns-in-Err c =
    let read = good_fields c.args.object c.args.acl.now (span_of c.args.entry) (fields_viewed c.in_ok-fields.fields)
    (ace c.in_ok-item.item) (rw c.len.ensures at c.in_ok-fields.ensures.exact) c.in_ok-item.ensures in
    rw c.refused_at.ensures
    (push_fails c.args.acl.now (ace c.in_ok-item.item) _ _ c.in-Err.fault _ c.in-Err.ensures.fault read)
