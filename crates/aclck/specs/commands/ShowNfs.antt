-- What `show-nfs [--profile full|narrow]` makes of an input (this library's own, over RFC 8881, section 6.2.1).
use Rattle.std.specs.Prelude.{List, ℕ, codes}
use Rattle.acl_perm.specs.Profile.{Profile}
use Rattle.acl_nfs4.specs.AceText.{ace_text}
use Rattle.aclck.specs.Answer.{Answer}
use Rattle.aclck.specs.XdrAnswer.{MakesAnswer}
use Rattle.aclck.specs.Definition.{Definition, of_profile}
use Rattle.aclck.specs.Run.{of_list}

-- the text of the list, or a fault that the input has
abbrev pub ShowNfsAnswer : Profile → List ℕ → Answer → Type 0
ShowNfsAnswer p = MakesAnswer p ace_text

-- the command
abbrev pub show_nfs : Definition
show_nfs = of_profile (codes "show-nfs") ShowNfsAnswer of_list
