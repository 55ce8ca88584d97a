use Rattle.acl_posix.proofs.Common.{refl}
use Rattle.acl_posix.proofs.excess.Exceeding.{from_groups, made_excess, to_anybody, to_named}
use Rattle.acl_posix.proofs.excess.Excess.excess_at.Goals as goal

pub returns-in_default-group_excess-clause-none : goal.returns-in_default-group_excess-clause-none
returns-in_default-group_excess-clause-none g c = λ _ id is. to_anybody _ _ _ _
    (to_named _ _ _ _ (c.in_default.ensures.none refl) (c.in_default-users_excess.ensures.none refl))
    (c.in_default-group_excess.ensures.none refl) id

pub returns-clause-some : goal.returns-clause-some
returns-clause-some g c =
    let made = c.difference_of.ensures in
    made_excess _ _ _ _ _ _ _ made.owner made.user made.groups made.group made.request
    (from_groups _ _ _ _ _ _ (rw c.in-Some-user.is at c.requires) c.in-Some-group_excess.ensures.some)
