use Rattle.acl_forms.proofs.AnyEntries.{id_again}
use Rattle.acl_forms.proofs.part.any_entry.who_at.Goals as goal

pub returns-in-Numbered-clause-exact : goal.returns-in-Numbered-clause-exact
returns-in-Numbered-clause-exact c =
    rw c.in-Numbered.is (id_again c.args.place c.args.type_number c.in-Numbered.id)
