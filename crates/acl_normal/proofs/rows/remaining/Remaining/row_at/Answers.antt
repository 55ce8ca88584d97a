use Rattle.std.proofs.Common.{◌<◌, length}
use Rattle.acl_normal.proofs.Common.{IsRowOf, key_here, remaining_of, subst, sym, ◌∙◌}
use Rattle.acl_normal.proofs.emit.Few.{remainder_of}
use Rattle.acl_normal.proofs.emit.InRemaining.{row_there}
use Rattle.acl_normal.proofs.rows.Rows.{named_here}
use Rattle.acl_normal.proofs.rows.remaining.Remaining.row_at.Goals as goal

pub returns-clause-row : goal.returns-clause-row
returns-clause-row c =
    let s = c.self.inside in
    let within : c.args.place < length (remaining_of s) =
    subst (λ v. c.args.place < length v) (sym c.self.view_is) c.requires in
    subst (λ v. IsRowOf c.index.result.now (key_here v c.args.place).0 v) c.self.view_is
    (record {
      named = named_here (remaining_of s) c.args.place within;
      is = c.index.ensures ∙ row_there s _ _ c.self.invariant within
          ∙ c.self.invariant.list.rows.at c.args.place within;
    })

pub returns-clause-list : goal.returns-clause-list
returns-clause-list c = remainder_of c.self.inside c.args.self.now c.self.invariant c.self.view_is
