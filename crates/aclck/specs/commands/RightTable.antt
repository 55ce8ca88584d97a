-- `table`: its words, and what it makes of an input (this library's own, over RFC 8881, section 6.2.1).
use Rattle.std.specs.Prelude.{◌==◌, ◌||◌, ◌∷◌, [], List, ℕ, Option, None, codes, if◌then◌else◌}
use Rattle.std.specs.List.{list_any}
use Rattle.std.specs.Option.{option_and_then, option_map}
use Rattle.std.specs.Str.{bytes_eq}
use Rattle.clap.specs.Words.{Row as Given, Text}
use Rattle.acl_perm.specs.Profile.{Profile, profile_of}
use Rattle.acl_nfs4.specs.BitNames.{bar, no_names}
use Rattle.acl_nfs4.specs.Rights.{mask_named}
use Rattle.acl_normal.specs.Programs.{Tabulates}
use Rattle.aclck.specs.Line.{value_of}
use Rattle.aclck.specs.Options.{bit_term, profile_term}
use Rattle.aclck.specs.ProfileArgument.{profile_in}
use Rattle.aclck.specs.Values.{within}
use Rattle.aclck.specs.Answer.{Answer, AnswersYes, IsXdrFault}
use Rattle.aclck.specs.declared.task.values.RightTable.{RightTable}
use Rattle.aclck.specs.Definition.{Definition, on_list}

-- ---- words

-- the mask of the one right that is requested, and the profile
pub record TableValues : Type 0 where
  pub bit : ℕ
  pub profile : Profile

-- the right of a field with one name (RFC 8881, section 6.2.1.3.1): a field that is not `-` and has no bar
unfoldable pub right_named : Text → Option ℕ
right_named text =
    if bytes_eq text no_names || list_any (λ b. b == bar) text then None else mask_named text

-- the right of a field with one name, if the set of rights has it
abbrev pub bit_value : ℕ → Text → Option ℕ
bit_value rights text = option_and_then (within rights) (right_named text)

-- the values, if both are there and the profile has the right
abbrev pub table_values : Option Text → Option Profile → Option TableValues
table_values bit profile = option_and_then (λ allowed. option_map (λ right. record { bit = right; profile = allowed })
    (option_and_then (bit_value allowed.masks) bit)) profile

-- the values that the rows of a parse give
unfoldable pub table_in : List Given → Option TableValues
table_in rows = table_values (value_of bit_term rows) (profile_in rows)

-- the values that the program holds
abbrev pub table_held : RightTable → TableValues
table_held v = record { bit = v.bit.bits; profile = profile_of v.profile }

-- ---- the answer

-- the text of the rows of the right, or a fault that the input has
abbrev pub TableAnswer : TableValues → List ℕ → Answer → Type 0
TableAnswer v input = AnswersYes (Tabulates v.profile v.bit input) (IsXdrFault v.profile input)

-- the command, `table --bit NAME [--profile full|narrow]`
abbrev pub table : Definition
table = on_list (codes "table") (bit_term ∷ profile_term ∷ []) table_in TableAnswer (λ v. v.profile)
