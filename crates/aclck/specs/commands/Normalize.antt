-- `normalize`: its words, and what it makes of an input (this library's own, over RFC 8881, section 6.2.1).
use Rattle.std.specs.Prelude.{◌∷◌, [], Bool, false, true, List, ℕ, Option, codes}
use Rattle.std.specs.Option.{option_map}
use Rattle.clap.specs.Words.{Row}
use Rattle.acl_perm.specs.Profile.{Profile, profile_of}
use Rattle.acl_perm.specs.declared.profile.Profile.{Profile as HeldProfile}
use Rattle.acl_normal.specs.NormalForm.{Normalizes}
use Rattle.acl_normal.specs.Programs.{NormalizesAtPaths}
use Rattle.aclck.specs.Line.{is_given}
use Rattle.aclck.specs.Options.{inherit_term, profile_term}
use Rattle.aclck.specs.ProfileArgument.{profile_in}
use Rattle.aclck.specs.Answer.{Answer, AnswersYes, IsXdrFault}
use Rattle.aclck.specs.declared.task.values.Normalize.{Normalize}
use Rattle.aclck.specs.Definition.{Definition, on_list}

-- ---- words

-- whether inheritance counts, and the profile
pub record NormalizeValues : Type 0 where
  pub inherit : Bool
  pub profile : Profile

-- the values that the rows of a parse give
unfoldable pub normalize_in : List Row → Option NormalizeValues
normalize_in rows = option_map (λ p. record { inherit = is_given inherit_term rows; profile = p }) (profile_in rows)

-- the values without `--inherit`, with this profile
abbrev pub one_form : HeldProfile → NormalizeValues
one_form p = record { inherit = false; profile = profile_of p }

-- the values with `--inherit` and this profile
abbrev pub five_forms : HeldProfile → NormalizeValues
five_forms p = record { inherit = true; profile = profile_of p }

-- the values that the program holds
abbrev pub normalize_held : Normalize → NormalizeValues
normalize_held v = record { inherit = v.inherit; profile = profile_of v.profile }

-- ---- the answer

-- the bytes that spell the normal form of the list, or a fault that the input has
abbrev pub NormalizeAnswer : Profile → List ℕ → Answer → Type 0
NormalizeAnswer p input = AnswersYes (Normalizes p input) (IsXdrFault p input)

-- the bytes that spell the five normal forms of the list, or a fault that the input has
abbrev pub NormalizeInheritAnswer : Profile → List ℕ → Answer → Type 0
NormalizeInheritAnswer p input = AnswersYes (NormalizesAtPaths p input) (IsXdrFault p input)

-- the five forms if inheritance counts, and otherwise the one
abbrev pub NormalizedAnswer : NormalizeValues → List ℕ → Answer → Type 0
NormalizedAnswer v = by v.inherit v.profile
  where
    by : Bool → Profile → List ℕ → Answer → Type 0
    by true p = NormalizeInheritAnswer p
    by false p = NormalizeAnswer p

-- the command, `normalize [--inherit] [--profile full|narrow]`
abbrev pub normalize : Definition
normalize =
    on_list (codes "normalize") (inherit_term ∷ profile_term ∷ []) normalize_in NormalizedAnswer (λ v. v.profile)
