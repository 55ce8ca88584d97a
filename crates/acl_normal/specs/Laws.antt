-- What the laws of normal forms say about columns and about spellings (this library's own).
use Rattle.std.specs.Prelude.{◌≡◌, ◌↔◌, ◌∷◌, ◌++◌, ℕ, true, List}
use Rattle.acl_perm.specs.Profile.{Profile}
use Rattle.acl_nfs4.specs.Ace.{Ace}
use Rattle.acl_nfs4.specs.Spelling.{IsAccepted, spelling}
use Rattle.acl_nfs4.specs.Within.{IsProfile}
use Rattle.acl_eval.specs.Column.{Column, column}
use Rattle.acl_eval.specs.Grant.{SameGrants}
use Rattle.acl_normal.specs.Keys.{ColumnKey, conflicts}
use Rattle.acl_normal.specs.Normal.{IsNormal}
use Rattle.acl_normal.specs.NormalForm.{IsNormalFormOf}

-- the key is in the column
pub record Has (c : Column) (e : ColumnKey) : Type 0 where
  pub before : Column
  pub after : Column
  pub is : c ≡ before ++ e ∷ after

-- the first key is before the second
pub record Precedes (c : Column) (e f : ColumnKey) : Type 0 where
  pub before : Column
  pub between : Column
  pub after : Column
  pub is : c ≡ before ++ e ∷ (between ++ f ∷ after)

-- the columns of both lists have the same keys
abbrev pub HaveSameKeys : List Ace → List Ace → Type 0
HaveSameKeys list other = (bit : ℕ) (e : ColumnKey) → Has (column list bit) e ↔ Has (column other bit) e

-- the columns of both lists have each two keys that conflict in the same order
abbrev pub HaveSameOrder : List Ace → List Ace → Type 0
HaveSameOrder list other = (bit : ℕ) (e f : ColumnKey) → conflicts e f ≡ true
    → Precedes (column list bit) e f ↔ Precedes (column other bit) e f

-- a normal list that is accepted under the profile and grants the same rights of the profile as the source
pub record IsForm (p : Profile) (source form : List Ace) : Type 0 where
  pub accepted : IsAccepted p form
  pub normal : IsNormal form
  pub grants : SameGrants p.masks source form

-- the normal form of a source that is accepted under the profile
pub record IsFormOfAccepted (p : Profile) (source form : List Ace) : Type 0 where
  pub accepted : IsAccepted p source
  pub is_form : IsNormalFormOf source form

-- two such lists have the same spelling (RFC 4506) if and only if their sources grant the same, under every profile
abbrev pub SpellingsTellApart : (Profile → List Ace → List Ace → Type 0) → Type 0
SpellingsTellApart IsForm = (p : Profile) (source other form other_form : List Ace) → IsProfile p
    → IsForm p source form → IsForm p other other_form
    → (spelling form ≡ spelling other_form) ↔ SameGrants p.masks source other
