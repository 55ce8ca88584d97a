-- What a call from C reports of whether whoever gets one right from a list also gets some others (this library's own,
-- over RFC 8881, section 6.2.1).
use Rattle.std.specs.Prelude.{◌≡◌, ◌⊎◌, [], ℕ, List, false, length}
use Rattle.acl_perm.specs.Bits.{IsMask}
use Rattle.acl_perm.specs.Profile.{Profile}
use Rattle.acl_perm.specs.Situation.{Situation}
use Rattle.acl_nfs4.specs.Ace.{Ace}
use Rattle.acl_nfs4.specs.Spelling.{Xdr}
use Rattle.acl_contain.specs.Implied.{Implies, IsFirstMissing}
use Rattle.aclck_c.specs.Compare.{names_text, no_difference, raw_difference}
use Rattle.aclck_c.specs.Options.{IsProfileOption}
use Rattle.aclck_c.specs.Requests.{IsRight, IsSomeRight}
use Rattle.aclck_c.specs.declared.nfs4.compare.RawDifference.{RawDifference}
use Rattle.aclck_c.specs.declared.nfs4.implies.RawImplication.{RawImplication}

-- exactly one right and a mask are asked, and the options are those of a profile
pub record IsGoodImplication (asked : RawImplication) : Type 0 where
  pub is_mask : IsMask asked.right
  pub is_right : IsSomeRight asked.right
  pub others_mask : IsMask asked.others
  pub is_profile : IsProfileOption asked.options

-- these are the right that is missing in the first situation in which the list grants the right of a bit and denies one
-- of some others, and the names of that situation
pub record AreMissingNames (list : List Ace) (bit others : ℕ) (at : RawDifference) (names : List ℕ) : Type 0 where
  pub situation : Situation
  pub missing : ℕ
  pub is_first : IsFirstMissing list bit others situation missing
  pub is_at : at ≡ raw_difference (length names) missing false
  pub named : names ≡ names_text situation

-- nothing and no name if whoever is granted the right is granted the others, and otherwise what is missing first
abbrev pub ImpliesAs : List Ace → ℕ → ℕ → RawDifference → List ℕ → Type 0
ImpliesAs list bit others at names =
    (Implies list bit others × (at ≡ no_difference) × (names ≡ [])) ⊎ AreMissingNames list bit others at names

-- the bytes spell a list, and this is how the right of a bit implies the others there
pub record HasImplication (p : Profile) (bytes : List ℕ) (bit others : ℕ) (at : RawDifference) (names : List ℕ) :
    Type 0 where
  pub list : List Ace
  pub spelled : Xdr p list bytes
  pub implies : ImpliesAs list bit others at names

-- the same for a right that is given as a mask
pub record HasImplicationOf (p : Profile) (bytes : List ℕ) (right others : ℕ) (at : RawDifference) (names : List ℕ) :
    Type 0 where
  pub bit : ℕ
  pub is_right : IsRight right bit
  pub has : HasImplication p bytes bit others at names
