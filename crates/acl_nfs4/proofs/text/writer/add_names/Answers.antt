use Rattle.acl_nfs4.proofs.Common.{ap, append-nil, arith, joined_names, sym, ◌++◌, ◌∙◌}
use Rattle.acl_nfs4.proofs.names.Tables.{none_from}
use Rattle.acl_nfs4.proofs.text.writer.add_names.Goals as goal

pub returns-then-row-set-clause-text : goal.returns-then-row-set-clause-text
returns-then-row-set-clause-text c =
    let none = none_from c.args.table.now c.args.set c.loop-row.row-index _ c.requires.rising
    (omega (arith, c.loop-row-test.true)) c.if-row-set.true in
    sym (append-nil c.loop-row.line.items)
    ∙ sym (ap (λ names. c.loop-row.line.items ++ joined_names c.loop-row.is_first names) none)
    ∙ c.loop-row.invariant.text
