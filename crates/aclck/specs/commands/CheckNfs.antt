-- `check-nfs`: its words, and what it makes of an input (this library's own, over RFC 8881, section 6.2.1).
use Rattle.std.specs.Prelude.{◌≡◌, ◌∷◌, ◌&&◌, [], List, ℕ, Option, Some, None, codes, if◌then◌else◌}
use Rattle.std.specs.Option.{option_and_then, option_map}
use Rattle.clap.specs.Words.{Row, Text}
use Rattle.acl_perm.specs.Profile.{Profile, profile_of}
use Rattle.acl_perm.specs.Situation.{Situation}
use Rattle.acl_eval.specs.Programs.{Decides}
use Rattle.acl_eval.specs.Situation.{groups_of, owner_of, owning_group_of, user_of}
use Rattle.acl_eval.specs.declared.situation.Object.{Object}
use Rattle.acl_eval.specs.declared.situation.Requester.{Requester}
use Rattle.aclck.specs.Line.{any_words, value_of}
use Rattle.aclck.specs.Options.{group_term, mask_term, owner_term, profile_term, user_term}
use Rattle.aclck.specs.ProfileArgument.{profile_in}
use Rattle.aclck.specs.Values.{are_names, is_name, mask_within}
use Rattle.aclck.specs.Answer.{Answer, IsXdrFault, decision_line, done, is_yes, refused}
use Rattle.aclck.specs.declared.answer.Outcome.{Outcome}
use Rattle.aclck.specs.declared.task.values.CheckNfs.{CheckNfs}
use Rattle.aclck.specs.Definition.{Definition}
use Rattle.aclck.specs.Run.{of_list}

-- ---- words

-- the owner and the owning group of the object
pub record NamedObject : Type 0 where
  pub owner : Text
  pub group : Text

-- who requests access
pub record NamedRequester : Type 0 where
  pub user : Text
  pub groups : List Text

-- the object, the requester, the rights that are requested, and the profile
pub record CheckNfsValues : Type 0 where
  pub object : NamedObject
  pub requester : NamedRequester
  pub mask : ℕ
  pub profile : Profile

-- an object's owner and group, if both are names
abbrev pub object_named : Option Text → Option Text → Option NamedObject
object_named owner group = option_and_then (λ owner_name. option_and_then (λ group_name.
    if is_name owner_name && is_name group_name
    then Some (record { owner = owner_name; group = group_name }) else None) group) owner

-- a user and the groups, if all are names
abbrev pub requester_named : Option Text → List Text → Option NamedRequester
requester_named user groups = option_and_then (λ user_name.
    if is_name user_name && are_names groups
    then Some (record { user = user_name; groups = groups }) else None) user

-- the values, if all are there and the profile has the rights of the mask
abbrev pub check_nfs_values :
    Option NamedObject → Option NamedRequester → Option Text → Option Profile → Option CheckNfsValues
check_nfs_values object requester mask profile =
    option_and_then (λ whose. option_and_then (λ who. option_and_then (λ allowed. option_map (λ rights.
    record { object = whose; requester = who; mask = rights; profile = allowed })
    (option_and_then (mask_within allowed.masks) mask)) profile) requester) object

-- the values that the rows of a parse and the words that are no option give
unfoldable pub check_nfs_in : List Row → List Text → Option CheckNfsValues
check_nfs_in rows groups = check_nfs_values
    (object_named (value_of owner_term rows) (value_of group_term rows))
    (requester_named (value_of user_term rows) groups)
    (value_of mask_term rows)
    (profile_in rows)

-- the names of an object
abbrev pub object_names : Object → NamedObject
object_names object = record { owner = owner_of object; group = owning_group_of object }

-- the names of a requester
abbrev pub requester_names : Requester → NamedRequester
requester_names requester = record { user = user_of requester; groups = groups_of requester }

-- the values that the program holds
abbrev pub check_nfs_held : CheckNfs → CheckNfsValues
check_nfs_held task = record {
  object = object_names task.object;
  requester = requester_names task.requester;
  mask = task.mask.bits;
  profile = profile_of task.profile;
}

-- ---- the answer

-- the situation in which the requester requests access to the object
abbrev pub check_nfs_situation : CheckNfsValues → Situation
check_nfs_situation values = record {
  owner_name = values.object.owner;
  owning_group = values.object.group;
  user_name = values.requester.user;
  groups = values.requester.groups;
}

-- the input is one accepted list of the profile and nothing more, and the outcome says whether that list grants the
-- request
abbrev pub DecidesNfs : CheckNfsValues → List ℕ → Outcome → Type 0
DecidesNfs values input o = Decides values.profile input (check_nfs_situation values) values.mask (is_yes o)

-- the outcome with the line that reports it, or a fault that the input has
abbrev pub CheckNfsAnswer : CheckNfsValues → List ℕ → Answer → Type 0
CheckNfsAnswer values input (done o text) = DecidesNfs values input o × (text ≡ decision_line o)
CheckNfsAnswer values input (refused f) = IsXdrFault values.profile input f

-- the command, `check-nfs --owner NAME --group NAME --user NAME --mask MASK [--profile full|narrow] [GROUPS..]`
abbrev pub check_nfs : Definition
check_nfs = record {
  word = codes "check-nfs";
  terms = owner_term ∷ group_term ∷ user_term ∷ mask_term ∷ profile_term ∷ any_words ∷ [];
  Values = CheckNfsValues;
  read = check_nfs_in;
  Answers = CheckNfsAnswer;
  shape = λ v. of_list v.profile;
}
