use Rattle.std.specs.FinMap as set
use Rattle.acl_posix.proofs.Common.{arith, length, rules, ◌≤◌}
use Rattle.acl_posix.proofs.group_answers.Answering.{none_answered}
use Rattle.acl_posix.proofs.group_answers.GroupAnswers.group_with.Goals as goal

pub returns-clause-none : goal.returns-clause-none
returns-clause-none g c = λ _ id h. none_answered _ _ _ _ _ _
    (λ owning. let no = c.if-has_answers.ensures.1 owning in absurd cc)
    (λ j k lt is has.
    let end : length (set.entries (g.Self.EntrySet.entries c.args.self.now)) ≤ c.loop-place.place = search rules in
    c.loop-place.invariant j k (omega (arith, lt, end)) is has) id h
