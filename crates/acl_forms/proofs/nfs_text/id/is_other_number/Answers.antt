use Rattle.std.proofs.Common.{ap, sym, ◌∙◌}
use Rattle.std.specs.Prelude.{not}
use Rattle.acl_forms.proofs.DigitLemmas.{same_number}
use Rattle.acl_forms.proofs.nfs_text.id.is_other_number.Goals as goal

pub returns-then-is_number : goal.returns-then-is_number
returns-then-is_number c = rw (sym c.is_number.ensures ∙ c.if-is_number.true) (c.ne.ensures
    ∙ ap not (same_number c.args.name.now c.read_id.result c.args.id c.read_id.ensures))
