-- What is left of a list after rights that play no part are removed (this library's own).
use Rattle.std.specs.Prelude.{◌≡◌, ℕ, ◌<◌, false, List, []}
use Rattle.acl_perm.specs.Bits.{all_rights, has_bit}
use Rattle.acl_eval.specs.Column.{column}
use Rattle.acl_eval.specs.Grant.{SameGrants}
use Rattle.acl_perm.specs.Profile.{full}
use Rattle.acl_nfs4.specs.Ace.{Ace}
use Rattle.acl_nfs4.specs.Spelling.{IsAccepted}
use Rattle.acl_normal.specs.internal.Places.{bit_count}
use Rattle.acl_normal.specs.Left.{KeepsFirsts, left}
use Rattle.acl_normal.specs.internal.Tidy.{IsTidy}
use Rattle.acl_normal.specs.Normal.{IsIrreducibleList}
use Rattle.acl_normal.specs.Places.{nothing_left}
use Rattle.acl_normal.specs.internal.Plain.{default, needed_keys, reduced}

-- the list is its source with fewer rights: what is first for a principal is first there too
pub record IsThinned (source list : List Ace) : Type 0 where
  pub outline : nothing_left list ≡ nothing_left source
  pub tidy : IsTidy list
  pub firsts : KeepsFirsts source list

-- of each column of the source, the list has the keys that are needed
abbrev pub HasNeededColumns : List Ace → List Ace → Type 0
HasNeededColumns source list = (b : ℕ) → b < bit_count
    → column list b ≡ needed_keys (default (column source b)) (column source b)

-- the source is accepted, and the list is the source without the rights that no situation needs
pub record IsReducedOf (source list : List Ace) : Type 0 where
  pub accepted : IsAccepted full source
  pub thinned : IsThinned source list
  pub rights : (b : ℕ) → has_bit all_rights b ≡ false → column list b ≡ []
  pub columns : (b : ℕ) → b < bit_count → column list b ≡ reduced (column source b)
  pub grants : SameGrants all_rights source list
  pub irreducible : IsIrreducibleList (left list)
