-- What the laws of the evaluation say (RFC 8881, section 6.2.1).
use Rattle.std.specs.Prelude.{◌≡◌, ℕ, List}
use Rattle.acl_perm.specs.Situation.{Situation, is_one_of}

-- a relation that is reflexive, symmetric and transitive
pub record IsEquivalence {X : Type 0} (same : X → X → Type 0) : Type 0 where
  pub reflexive : (x : X) → same x x
  pub symmetric : (x y : X) → same x y → same y x
  pub transitive : (x y z : X) → same x y → same y z → same x z

-- two situations that differ at most in the order of the groups, and in how often each group is repeated
pub record HaveSameNames (s t : Situation) : Type 0 where
  pub owner_name : t.owner_name ≡ s.owner_name
  pub owning_group : t.owning_group ≡ s.owning_group
  pub user_name : t.user_name ≡ s.user_name
  pub groups : (name : List ℕ) → is_one_of name t.groups ≡ is_one_of name s.groups
