use Rattle.std.specs.Prelude.{IsNone}
use Rattle.acl_normal.proofs.Common.{all_rights, IfOk-weaker, IfSome, true, ◌↔◌, ◌≡◌}
use Rattle.acl_eval.specs.Grant.{GrantsAtMost}
use Rattle.acl_contain.proofs.exceeding.excess_of_views.Goals as goal
use Rattle.acl_normal.specs.Difference.{situation_of}
use Rattle.acl_normal.specs.Excess.{IsExcess, IsFirstExcess}
use Rattle.acl_normal.specs.SmallSets.{TellsApart}

pub returns-clause-contained : goal.returns-clause-contained
returns-clause-contained c = IfOk-weaker c.searched.result (IsExcess c.args.first.now c.args.second.now)
    (λ r. IsNone r ↔ GrantsAtMost all_rights c.args.first.now c.args.second.now) (λ r h. h.contained)
    c.searched.ensures

pub returns-clause-first : goal.returns-clause-first
returns-clause-first c = IfOk-weaker c.searched.result (IsExcess c.args.first.now c.args.second.now)
    (λ r. IfSome r (λ d. IsFirstExcess c.args.first.now c.args.second.now (situation_of d) d.bit.bits))
    (λ r h. h.first) c.searched.ensures

pub returns-clause-requester : goal.returns-clause-requester
returns-clause-requester c = IfOk-weaker c.searched.result (IsExcess c.args.first.now c.args.second.now)
    (λ r. IfSome r (λ d. TellsApart c.args.first.now c.args.second.now (situation_of d) d.bit.bits true))
    (λ r h. h.requester) c.searched.ensures

pub returns-clause-grants : goal.returns-clause-grants
returns-clause-grants c = IfOk-weaker c.searched.result (IsExcess c.args.first.now c.args.second.now)
    (λ r. IfSome r (λ d. d.first_grants ≡ true)) (λ r h. h.grants) c.searched.ensures
