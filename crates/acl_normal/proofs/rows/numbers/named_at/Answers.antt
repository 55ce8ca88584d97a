use Rattle.std.proofs.Common.{sym, ◌∙◌}
use Rattle.acl_normal.proofs.rows.ByPlace.{named_after, named_in}
use Rattle.acl_normal.proofs.rows.numbers.named_at.Goals as goal

pub returns-in-Some : goal.returns-in-Some
returns-in-Some c =
    let lookup = c.in-Some.ensures.lookup in
    c.whom.ensures ∙ named_in c.args.aces.now c.args.place c.in-Some.ace.now lookup.3.0 lookup.1

pub returns-in-None : goal.returns-in-None
returns-in-None c = sym (named_after c.args.aces.now c.args.place c.in-None.ensures.lookup.3)
