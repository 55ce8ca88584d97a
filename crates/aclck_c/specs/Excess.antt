-- What a call from C reports of what one list grants and another denies (this library's own, over RFC 8881, section
-- 6.2.1).
use Rattle.std.specs.Prelude.{◌≡◌, ◌⊎◌, [], ℕ, List, length, true}
use Rattle.acl_perm.specs.Bits.{all_rights}
use Rattle.acl_perm.specs.Profile.{Profile}
use Rattle.acl_perm.specs.Situation.{Situation}
use Rattle.acl_nfs4.specs.Ace.{Ace}
use Rattle.acl_eval.specs.Grant.{GrantsAtMost}
use Rattle.acl_normal.specs.Excess.{IsFirstExcess}
use Rattle.aclck_c.specs.Compare.{SpellLists, names_text, no_difference, raw_difference}
use Rattle.aclck_c.specs.declared.nfs4.compare.RawDifference.{RawDifference}

-- these are the right at which a situation is the first in which the first list grants more than the second, and the
-- names of that situation
pub record AreExcessNames (list other : List Ace) (at : RawDifference) (names : List ℕ) : Type 0 where
  pub situation : Situation
  pub right : ℕ
  pub is_first : IsFirstExcess list other situation right
  pub is_at : at ≡ raw_difference (length names) right true
  pub named : names ≡ names_text situation

-- nothing and no name if the second list grants whatever the first grants, and otherwise the first excess and its names
abbrev pub ExceedsAs : List Ace → List Ace → RawDifference → List ℕ → Type 0
ExceedsAs list other at names =
    (GrantsAtMost all_rights list other × (at ≡ no_difference) × (names ≡ [])) ⊎ AreExcessNames list other at names

-- both spell lists, and this is how the first grants more than the second
pub record AreExcess (p : Profile) (first second : List ℕ) (at : RawDifference) (names : List ℕ) : Type 0 where
  pub list : List Ace
  pub other : List Ace
  pub spelled : SpellLists p first second list other
  pub exceeds : ExceedsAs list other at names
