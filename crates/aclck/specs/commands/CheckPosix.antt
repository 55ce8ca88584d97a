-- `check-posix`: its words, and what it makes of an input (this library's own, over acl(5), "ACCESS CHECK ALGORITHM").
use Rattle.std.specs.Prelude.{◌≡◌, ◌∷◌, [], List, ℕ, Option, Some, None, codes}
use Rattle.std.specs.Option.{option_and_then, option_map}
use Rattle.clap.specs.Words.{Row, Text}
use Rattle.acl_posix.specs.Check.{Object, Requester, ids}
use Rattle.acl_posix.specs.Grammar.{Reads}
use Rattle.acl_posix.specs.Names.{Table}
use Rattle.acl_posix.specs.Programs.{Checks}
use Rattle.aclck.specs.Line.{any_words, value_of, words_of}
use Rattle.aclck.specs.NameWords.{names_value}
use Rattle.aclck.specs.Options.{group_term, groups_term, owner_term, user_term, want_term}
use Rattle.aclck.specs.Values.{id_value, ids_value, of_both, want_value}
use Rattle.aclck.specs.Answer.{Answer, decision_line, done, is_yes, refused}
use Rattle.aclck.specs.PosixAnswer.{IsPosixFault}
use Rattle.aclck.specs.declared.answer.Outcome.{Outcome}
use Rattle.aclck.specs.declared.task.values.CheckPosix.{CheckPosix}
use Rattle.aclck.specs.Definition.{Definition, on_text}

-- ---- words

-- the requester, the object, the permissions that are requested, and which names a text may have
pub record CheckPosixValues : Type 0 where
  pub object : Object
  pub requester : Requester
  pub want : ℕ
  pub names : Table

-- the groups of `--groups`, or none if it is absent
abbrev pub groups_value : Option Text → Option (List ℕ)
groups_value None = Some []
groups_value (Some text) = ids_value text

-- an object's owner and owning group, if both are there
abbrev pub object_if_any : Option ℕ → Option ℕ → Option Object
object_if_any owner group = of_both (λ o g. record { user = o; group = g }) owner group

-- a user and the groups, if both are there
abbrev pub requester_if_any : Option ℕ → Option (List ℕ) → Option Requester
requester_if_any user groups = of_both (λ u gs. record { user = u; groups = gs }) user groups

-- the values, if all are there
abbrev pub check_posix_values :
    Option Object → Option Requester → Option ℕ → Option Table → Option CheckPosixValues
check_posix_values object requester want names =
    option_and_then (λ o. option_and_then (λ r. option_and_then (λ w. option_map (λ n.
    record { object = o; requester = r; want = w; names = n }) names) want) requester) object

-- the values that the rows of a parse give
unfoldable pub check_posix_in : List Row → Option CheckPosixValues
check_posix_in rows = check_posix_values
    (object_if_any (option_and_then id_value (value_of owner_term rows))
    (option_and_then id_value (value_of group_term rows)))
    (requester_if_any (option_and_then id_value (value_of user_term rows)) (groups_value (value_of groups_term rows)))
    (option_and_then want_value (value_of want_term rows))
    (names_value (words_of rows))

-- the values that the program holds
abbrev pub check_posix_held : CheckPosix → CheckPosixValues
check_posix_held v = record {
  object = record { user = v.owner.value; group = v.group.value };
  requester = record { user = v.user.value; groups = ids v.groups.items };
  want = v.want.bits;
  names = v.names;
}

-- ---- the answer

-- the input is the text of a file with the names, and the outcome says whether its access ACL grants the request
abbrev pub ChecksPosix : CheckPosixValues → List ℕ → Outcome → Type 0
ChecksPosix v input o = Checks (Reads input v.names) v.object v.requester v.want (is_yes o)

-- the outcome with the line that reports it, or a fault that the input has
abbrev pub CheckPosixAnswer : CheckPosixValues → List ℕ → Answer → Type 0
CheckPosixAnswer v input (done o text) = ChecksPosix v input o × (text ≡ decision_line o)
CheckPosixAnswer v input (refused f) = IsPosixFault v.names input f

-- the command, `check-posix --owner ID --group ID --user ID [--groups IDS] --want WANT [NAMES..]`
abbrev pub check_posix : Definition
check_posix = on_text (codes "check-posix")
    (owner_term ∷ group_term ∷ user_term ∷ groups_term ∷ want_term ∷ any_words ∷ []) check_posix_in CheckPosixAnswer
