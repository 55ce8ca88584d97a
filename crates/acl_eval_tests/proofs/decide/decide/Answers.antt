use Rattle.std.proofs.Common.{◌≡◌, rules}
use Rattle.std.specs.Prelude.{map}
use Rattle.acl_eval.specs.Situation.{groups_of, owner_of, owning_group_of, user_of}
use Rattle.acl_eval_tests.proofs.decide.decide.Goals as goal

pub returns-clause-answer : goal.returns-clause-answer
returns-clause-answer c =
    let owner : owner_of c.in_ok-object.object ≡ c.args.owner.now = search rules in
    let group : owning_group_of c.in_ok-object.object ≡ c.args.group.now = search rules in
    let user : user_of c.in_ok-requester.requester ≡ c.args.user.now = search rules in
    let groups : groups_of c.in_ok-requester.requester ≡ map (λ g. g.now) c.args.groups.now = search rules in (
      c.in_ok-list.list,
      c.in_ok-list.ensures.found,
      rw (owner, group, user, groups) at (rw c.aces.ensures.same at c.grants.ensures),
    )
