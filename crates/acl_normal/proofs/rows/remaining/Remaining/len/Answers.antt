use Rattle.std.proofs.Common.{◌∙◌, sym, ap, length}
use Rattle.acl_normal.proofs.emit.Few.{remainder_of}
use Rattle.acl_normal.proofs.emit.InRemaining.{length_remaining}
use Rattle.acl_normal.proofs.rows.remaining.Remaining.len.Goals as goal

pub returns-clause-count : goal.returns-clause-count
returns-clause-count c =
    c.len.ensures ∙ c.self.inside.aces.ok.0 ∙ sym (length_remaining c.self.inside c.self.invariant)
    ∙ ap length c.self.view_is

pub returns-clause-list : goal.returns-clause-list
returns-clause-list c = remainder_of c.self.inside c.args.self.now c.self.invariant c.self.view_is
