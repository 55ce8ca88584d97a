-- What a difference of two lists shows (this library's own type).
use Rattle.std.specs.Prelude.{◌↔◌, IfSome, IsNone, List, Option, map}
use Rattle.acl_eval.specs.Grant.{SameGrants}
use Rattle.acl_nfs4.specs.Ace.{Ace}
use Rattle.acl_normal.specs.SmallSets.{IsFirstDifference, TellsApart}
use Rattle.acl_normal.specs.declared.comparison.Difference.{Difference}
use Rattle.acl_perm.specs.Bits.{all_rights}
use Rattle.acl_perm.specs.Situation.{Situation}

-- the situation that a difference names
abbrev pub situation_of : Difference → Situation
situation_of d = record {
  owner_name = d.owner.items;
  owning_group = d.group.items;
  user_name = d.user.items;
  groups = map (λ g. g.items) d.groups.items;
}

-- the result of a comparison of two lists: nothing if and only if they grant the same, else their first difference
pub record IsComparison (list other : List Ace) (found : Option Difference) : Type 0 where
  pub same : IsNone found ↔ SameGrants all_rights list other
  pub first : IfSome found (λ d. IsFirstDifference list other (situation_of d) d.bit.bits d.first_grants)
  pub requester : IfSome found (λ d. TellsApart list other (situation_of d) d.bit.bits d.first_grants)
