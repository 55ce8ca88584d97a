use Rattle.std.specs.Prelude.{map}
use Rattle.acl_nfs4.specs.Ace.{ace}
use Rattle.acl_decide.proofs.Assignments.{allowed_is, denied_is, found_in_part, undecided_is, unknown_is, whole_is}
use Rattle.acl_decide.proofs.rights_with_unknown.decided_with_unknown.Goals as goal

pub returns-clause-allowed : goal.returns-clause-allowed
returns-clause-allowed c = λ bit. rw (c.sorted.ensures.allowed bit) (allowed_is _ _ _ _ _ _ bit
    (found_in_part c.in_ok-possible.possible c.args.mask.bits (map ace c.aces-aces.result.now) _ _ _ bit
    c.aces-aces.ensures.same c.new-matcher.ensures (c.in_ok-possible.ensures bit)))

pub returns-clause-denied : goal.returns-clause-denied
returns-clause-denied c = λ bit. rw (c.sorted.ensures.denied bit) (denied_is _ _ _ _ _ _ bit
    (found_in_part c.in_ok-possible.possible c.args.mask.bits (map ace c.aces-aces.result.now) _ _ _ bit
    c.aces-aces.ensures.same c.new-matcher.ensures (c.in_ok-possible.ensures bit)))

pub returns-clause-undecided : goal.returns-clause-undecided
returns-clause-undecided c = λ bit. rw (c.sorted.ensures.undecided bit) (undecided_is _ _ _ _ _ _ bit
    (found_in_part c.in_ok-possible.possible c.args.mask.bits (map ace c.aces-aces.result.now) _ _ _ bit
    c.aces-aces.ensures.same c.new-matcher.ensures (c.in_ok-possible.ensures bit)))

pub returns-clause-unknown : goal.returns-clause-unknown
returns-clause-unknown c = λ bit. rw (c.sorted.ensures.unknown bit) (unknown_is _ _ _ _ _ _ bit
    (found_in_part c.in_ok-possible.possible c.args.mask.bits (map ace c.aces-aces.result.now) _ _ _ bit
    c.aces-aces.ensures.same c.new-matcher.ensures (c.in_ok-possible.ensures bit)))

pub returns-clause-whole : goal.returns-clause-whole
returns-clause-whole c = λ bit. rw (
  c.sorted.ensures.allowed bit,
  c.sorted.ensures.denied bit,
  c.sorted.ensures.undecided bit,
  c.sorted.ensures.unknown bit,
) (whole_is _ _ _ _ _ _ bit
    (found_in_part c.in_ok-possible.possible c.args.mask.bits (map ace c.aces-aces.result.now) _ _ _ bit
    c.aces-aces.ensures.same c.new-matcher.ensures (c.in_ok-possible.ensures bit)))
