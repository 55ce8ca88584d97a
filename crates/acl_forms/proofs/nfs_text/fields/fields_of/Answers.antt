use Rattle.std.proofs.Common.{sym}
use Rattle.acl_perm.specs.Lines.{span_of}
use Rattle.acl_forms.proofs.NfsLemmas.{bad_number, bad_tag, good_tag}
use Rattle.acl_forms.specs.internal.NfsReading.{entry_viewed}
use Rattle.acl_forms.proofs.nfs_text.fields.fields_of.Goals as goal

pub returns-in_default-clause-exact : goal.returns-in_default-clause-exact
returns-in_default-clause-exact c =
    rw c.new.ensures (bad_tag (span_of c.args.entry) (span_of c.without_blanks-word.result) c.cut.result
    c.cut.ensures.parts c.without_blanks-word.ensures.value (sym c.in_default.ensures))

pub returns-in-Some-fields_after-clause-exact : goal.returns-in-Some-fields_after-clause-exact
returns-in-Some-fields_after-clause-exact c =
    good_tag (span_of c.args.entry) (span_of c.without_blanks-word.result) c.cut.result c.in-Some.tag
    (entry_viewed c.in-Some-fields_after.fields) c.cut.ensures.parts c.without_blanks-word.ensures.value
    (sym c.in-Some.ensures) (sym c.in-Some-fields_after.ensures.value)

pub returns-in-None-clause-exact : goal.returns-in-None-clause-exact
returns-in-None-clause-exact c =
    rw c.new-in-None.ensures (bad_number (span_of c.args.entry) (span_of c.without_blanks-word.result) c.cut.result
    c.in-Some.tag c.cut.ensures.parts c.without_blanks-word.ensures.value (sym c.in-Some.ensures)
    (sym c.in-None.ensures.value))
