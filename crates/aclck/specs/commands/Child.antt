-- `child`: its words, and what it makes of an input (this library's own, in the manner of RFC 8881, section 6.4).
use Rattle.std.specs.Prelude.{◌∷◌, [], List, ℕ, Option, Some, None, codes, if◌then◌else◌}
use Rattle.std.specs.Option.{option_and_then}
use Rattle.std.specs.Str.{bytes_eq}
use Rattle.clap.specs.Words.{Row, Text}
use Rattle.acl_perm.specs.Profile.{Profile, profile_of}
use Rattle.acl_eval.specs.Programs.{child_bytes}
use Rattle.acl_eval.specs.declared.inherit.ChildKind.{ChildKind}
use Rattle.acl_eval.specs.declared.inherit.ChildKind.TheVariants as kind
use Rattle.aclck.specs.Line.{value_of}
use Rattle.aclck.specs.Options.{kind_term, profile_term}
use Rattle.aclck.specs.ProfileArgument.{profile_in}
use Rattle.aclck.specs.Values.{of_both}
use Rattle.aclck.specs.Answer.{Answer}
use Rattle.aclck.specs.XdrAnswer.{MakesAnswer}
use Rattle.aclck.specs.declared.task.values.Child.{Child}
use Rattle.aclck.specs.Definition.{Definition, on_list}

-- ---- words

-- what is created, and the profile
pub record ChildValues : Type 0 where
  pub created : ChildKind
  pub profile : Profile

-- what a value of `--kind` names
unfoldable pub kind_value : Text → Option ChildKind
kind_value text = if bytes_eq text (codes "file") then Some kind.File
    else (if bytes_eq text (codes "dir") then Some kind.Directory else None)

-- the values that the rows of a parse give
unfoldable pub child_in : List Row → Option ChildValues
child_in rows = of_both (λ c p. record { created = c; profile = p })
    (option_and_then kind_value (value_of kind_term rows)) (profile_in rows)

-- the values that the program holds
abbrev pub child_held : Child → ChildValues
child_held v = record { created = v.kind; profile = profile_of v.profile }

-- ---- the answer

-- the spelling of the new object's list, or a fault that the input has
abbrev pub ChildAnswer : ChildValues → List ℕ → Answer → Type 0
ChildAnswer v = MakesAnswer v.profile (child_bytes v.created)

-- the command, `child --kind file|dir [--profile full|narrow]`
abbrev pub child : Definition
child = on_list (codes "child") (kind_term ∷ profile_term ∷ []) child_in ChildAnswer (λ v. v.profile)
