use Rattle.acl_normal.proofs.Common.{is_users, sym, ◌∙◌}
use Rattle.acl_normal.proofs.rows.Waits.{before_empty, before_least, before_some, no_keys}
use Rattle.acl_normal.proofs.merged.MergedRows.first_waiting.Goals as goal

pub returns-in-Some-clause-before : goal.returns-in-Some-clause-before
returns-in-Some-clause-before c = λ place l.
    before_least c.args.kind (is_users c.args.class) c.args.right.bit c.args.self.now c.waiting_at.result.now.keys
    c.in-Some.place.now place c.waiting_at.ensures.places c.in-Some.ensures.least l

pub returns-in-Some-clause-behind : goal.returns-in-Some-clause-behind
returns-in-Some-clause-behind c = λ place l _.
    before_some c.args.kind (is_users c.args.class) c.args.right.bit c.args.self.now place c.in-Some.place.now l
    (sym (c.waiting_at.ensures.places c.in-Some.place.now) ∙ c.in-Some.ensures.member)

pub returns-in-None-clause-before : goal.returns-in-None-clause-before
returns-in-None-clause-before c = λ place _.
    before_empty c.args.kind (is_users c.args.class) c.args.right.bit c.args.self.now c.waiting_at.result.now.keys place
    c.waiting_at.ensures.places (no_keys c.waiting_at.result.now.keys (λ l. cc (c.in-None.ensures.variant.1 l)))
