use Rattle.std.specs.FinMap as set
use Rattle.acl_posix.proofs.Common.{ap, arith, length, rules, sym, user, ◌≤◌}
use Rattle.acl_posix.specs.internal.GroupAnswers.{user_id}
use Rattle.acl_posix.proofs.group_answers.Answering.{key_at}
use Rattle.acl_posix.proofs.excess.Exceeding.{made_excess, named_at}
use Rattle.acl_posix.proofs.excess.Excess.users_excess.Goals as goal

pub user_excess-requires-clause-named : goal.user_excess-requires-clause-named
user_excess-requires-clause-named g c =
    c.requires.names _ (named_at (g.Self.EntrySet.entries c.args.self.now) c.loop-place.place _ (search rules)
    (sym c.in-Some.ensures))

pub returns-clause-none : goal.returns-clause-none
returns-clause-none g c = λ _ id has.
    let E = g.Self.EntrySet.entries c.args.self.now in
    let at = key_at E (user id) has in
    let end : length (set.entries E) ≤ c.loop-place.place = search rules in
    c.loop-place.invariant at.0 id (omega (arith, at.1, end)) (ap user_id at.2)

pub returns-in-Some-user_excess-clause-some : goal.returns-in-Some-user_excess-clause-some
returns-in-Some-user_excess-clause-some g c =
    let made = c.difference_of.ensures in
    made_excess _ _ _ _ _ _ _ made.owner made.user made.groups made.group made.request
    c.in-Some-user_excess.ensures.some
