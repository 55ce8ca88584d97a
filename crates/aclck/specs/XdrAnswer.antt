-- What the engines that write a text of a list make of an input (this library's own, over RFC 8881, section 6.2.1).
use Rattle.std.specs.Prelude.{List, ℕ}
use Rattle.acl_perm.specs.Profile.{Profile}
use Rattle.acl_nfs4.specs.Ace.{Ace}
use Rattle.acl_nfs4.specs.Programs.{MakesText}
use Rattle.aclck.specs.Answer.{Answer, AnswersYes, IsXdrFault}

-- the text that is made of the list, or a fault that the input has
abbrev pub MakesAnswer : Profile → (List Ace → List ℕ) → List ℕ → Answer → Type 0
MakesAnswer p made input = AnswersYes (MakesText p made input) (IsXdrFault p input)
