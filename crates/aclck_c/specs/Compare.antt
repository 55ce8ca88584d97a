-- What a comparison of the lists that bytes spell reports to a caller from C (this library's own, over RFC 8881,
-- section 6.2.1).
use Rattle.std.specs.Prelude.{◌≡◌, ◌++◌, ◌∷◌, ◌⊎◌, [], ℕ, Bool, List, false, length, true}
use Rattle.std.specs.List.{flat_map}
use Rattle.acl_perm.specs.Bits.{all_rights}
use Rattle.acl_perm.specs.Profile.{Profile}
use Rattle.acl_perm.specs.Situation.{Situation}
use Rattle.acl_nfs4.specs.Ace.{Ace}
use Rattle.acl_nfs4.specs.Spelling.{Xdr}
use Rattle.acl_eval.specs.Grant.{SameGrants}
use Rattle.acl_normal.specs.SmallSets.{IsFirstDifference}
use Rattle.aclck_c.specs.Lists.{AreList, IsRefusedList}
use Rattle.aclck_c.specs.Out.{truth_number}
use Rattle.aclck_c.specs.declared.nfs4.compare.RawDifference.{RawDifference}
use Rattle.aclck_c.specs.declared.refusal.Refusal.{Refusal}

-- both spell lists: these two
pub record SpellLists (p : Profile) (first second : List ℕ) (list other : List Ace) : Type 0 where
  pub first_spelled : Xdr p list first
  pub second_spelled : Xdr p other second

-- both spell lists, which grant everybody the same
pub record AreSame (p : Profile) (first second : List ℕ) : Type 0 where
  pub list : List Ace
  pub other : List Ace
  pub spelled : SpellLists p first second list other
  pub same : SameGrants all_rights list other

-- both spell lists, which do not grant everybody the same
pub record AreDifferent (p : Profile) (first second : List ℕ) : Type 0 where
  pub list : List Ace
  pub other : List Ace
  pub spelled : SpellLists p first second list other
  pub different : SameGrants all_rights list other → ⊥

-- both spell lists, and this is whether these grant everybody the same
abbrev pub AreSameOrNot : Profile → List ℕ → List ℕ → Bool → Type 0
AreSameOrNot p first second true = AreSame p first second
AreSameOrNot p first second false = AreDifferent p first second

-- a name and the byte 0 after it
abbrev pub ended : List ℕ → List ℕ
ended name = name ++ 0 ∷ []

-- the names of a situation, each with the byte 0 after it: owner, owning group, user, and the groups of the user
abbrev pub names_text : Situation → List ℕ
names_text s = ended s.owner_name ++ ended s.owning_group ++ ended s.user_name ++ flat_map ended s.groups

-- what is written if two lists grant everybody the same
abbrev pub no_difference : RawDifference
no_difference = record { names = 0; same = 1; right = 0; first_grants = 0 }

-- what is written if a call fails: not that the lists are the same, and no difference
abbrev pub not_compared : RawDifference
not_compared = record { names = 0; same = 0; right = 0; first_grants = 0 }

-- the length of the names, the right, and the number of what the first list grants
abbrev pub raw_difference : ℕ → ℕ → Bool → RawDifference
raw_difference names right first_grants =
    record { names = names; same = 0; right = right; first_grants = truth_number first_grants }

-- these are the right at which a situation is the first in which two lists differ, and the names of that situation
pub record AreFirstNames (list other : List Ace) (at : RawDifference) (names : List ℕ) : Type 0 where
  pub situation : Situation
  pub right : ℕ
  pub first_grants : Bool
  pub is_first : IsFirstDifference list other situation right first_grants
  pub is_at : at ≡ raw_difference (length names) right first_grants
  pub named : names ≡ names_text situation

-- nothing and no name if two lists grant everybody the same, and otherwise their first difference and its names
abbrev pub ComparesAs : List Ace → List Ace → RawDifference → List ℕ → Type 0
ComparesAs list other at names =
    (SameGrants all_rights list other × (at ≡ no_difference) × (names ≡ [])) ⊎ AreFirstNames list other at names

-- both spell lists, and this is how these compare
pub record AreCompared (p : Profile) (first second : List ℕ) (at : RawDifference) (names : List ℕ) : Type 0 where
  pub list : List Ace
  pub other : List Ace
  pub spelled : SpellLists p first second list other
  pub compared : ComparesAs list other at names

-- the first is refused with this fault, or the first spells a list and the second is refused with this fault
abbrev pub IsRefusedPair : Profile → List ℕ → List ℕ → Refusal → Type 0
IsRefusedPair p first second shown =
    IsRefusedList p first 0 shown ⊎ (AreList p first × IsRefusedList p second 1 shown)
