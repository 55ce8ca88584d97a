-- `mode`: what it makes of an input (this library's own, over RFC 8881, section 6.3.2).
use Rattle.std.specs.Prelude.{◌+◌, ◌∷◌, [], List, ℕ, codes}
use Rattle.acl_perm.specs.Lines.{line_feed}
use Rattle.acl_perm.specs.Mode.{group_part, others_part, owner_part}
use Rattle.acl_perm.specs.Profile.{Profile}
use Rattle.acl_eval.specs.ListMode.{mode_of_list}
use Rattle.aclck.specs.Answer.{Answer}
use Rattle.aclck.specs.XdrAnswer.{MakesAnswer}
use Rattle.aclck.specs.Definition.{Definition, of_profile}
use Rattle.aclck.specs.Run.{of_list}

-- ---- the answer

-- the octal digit of a set of permissions
abbrev pub octal_digit : ℕ → ℕ
octal_digit perm = 48 + perm

-- the three octal digits of a mode, and a line feed
abbrev pub mode_line : ℕ → List ℕ
mode_line mode = octal_digit (owner_part mode) ∷ octal_digit (group_part mode) ∷ octal_digit (others_part mode)
    ∷ line_feed ∷ []

-- the line of the mode of the list, or a fault that the input has
abbrev pub ModeAnswer : Profile → List ℕ → Answer → Type 0
ModeAnswer p = MakesAnswer p (λ list. mode_line (mode_of_list list))

-- the command
abbrev pub mode : Definition
mode = of_profile (codes "mode") ModeAnswer of_list
