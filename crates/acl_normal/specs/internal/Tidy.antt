-- Lists on the way to a normal form (this library's own, over RFC 8881, section 6.2.1).
use Rattle.std.specs.Prelude.{◌≡◌, ℕ, true, List, [], ◌≤◌}
use Rattle.std.specs.List.{AllByRecursion}
use Rattle.acl_perm.specs.Bits.{all_rights, IsSubset}
use Rattle.acl_nfs4.specs.Ace.{Ace}
use Rattle.acl_nfs4.specs.Who.{principal_of}
use Rattle.acl_eval.specs.Column.{Column, column}
use Rattle.acl_normal.specs.internal.Places.{bit_count}
use Rattle.acl_normal.specs.SmallSituations.{HasName}
use Rattle.acl_normal.specs.internal.emit.Emissions.{HasOnceColumns}
use Rattle.acl_normal.specs.Normal.{is_inherit_only}

-- an ACE that takes no part has no right
abbrev pub IsQuiet : List Ace → Type 0
IsQuiet list = AllByRecursion (λ a. is_inherit_only a ≡ true → a.mask ≡ 0) list

-- every bit is one of the sixteen rights
abbrev pub HasMasks : List Ace → Type 0
HasMasks list = AllByRecursion (λ a. IsSubset a.mask all_rights) list

-- each who that is a user or group name is a name that a situation may have
abbrev pub HasNames : List Ace → Type 0
HasNames list = AllByRecursion (λ a. HasName (principal_of a)) list

-- each principal of the column has such a name
abbrev pub HaveNames : Column → Type 0
HaveNames c = AllByRecursion (λ e. HasName e.0) c

-- each column has each principal once; an ACE that takes no part has no bit, and no bit is above the twenty-one
pub record IsTidy (list : List Ace) : Type 0 where
  pub once : HasOnceColumns list
  pub quiet : IsQuiet list
  pub low : (bit : ℕ) → bit_count ≤ bit → column list bit ≡ []
