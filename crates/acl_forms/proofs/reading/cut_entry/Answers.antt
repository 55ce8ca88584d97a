use Rattle.std.proofs.Common.{refl, ◌+◌}
use Rattle.std.proofs.lemmas.List.{take_rest}
use Rattle.acl_perm.proofs.Cuts.{says_value}
use Rattle.acl_perm.specs.Lines.{span_of}
use Rattle.acl_forms.proofs.EntryCuts.{cut_none, cut_some}
use Rattle.acl_forms.proofs.reading.cut_entry.Goals as goal

pub returns-in-None : goal.returns-in-None
returns-in-None g c =
    let says = says_value (g.F.TextForm.rules c.args.form).ends_entry c.args.line.bytes.now _ _ c.first_end.ensures
    c.in-None.is in
    record { parts = (cut_none (g.F.TextForm.rules c.args.form) (span_of c.args.line) says, refl) }

pub returns-in-Some : goal.returns-in-Some
returns-in-Some g c =
    let says = says_value (g.F.TextForm.rules c.args.form).ends_entry c.args.line.bytes.now _ _ c.first_end.ensures
    c.in-Some.is in
    let rest = take_rest c.args.line.bytes.now (c.in-Some.place + 1) in
    record { parts = cut_some (g.F.TextForm.rules c.args.form) (span_of c.args.line) c.in-Some.place _ says rest }
