use Rattle.std.proofs.Common.{ap, arith, List, ℕ, ◌∙◌}
use Rattle.std.specs.FinMap as fin
use Rattle.acl_forms.specs.internal.NamesOfIds.{names_by_id}
use Rattle.acl_forms.proofs.NamesOfIds.{id_added}
use Rattle.acl_forms.proofs.posix_text.names.keep_first.Goals as goal

pub returns-clause-added : goal.returns-clause-added
returns-clause-added c =
    let put = ap names_by_id c.in_ok-insert.ensures.entries
    ∙ id_added c.args.names.now.entries c.args.id c.in_ok-name.name
    ∙ ap (λ (bs : List ℕ). fin.insert (names_by_id c.args.names.now.entries) c.args.id bs) c.in_ok-name.ensures.items in
    let new = c.has_name.ensures in
    grind (arith, put, new, c.if-has_name.false)
