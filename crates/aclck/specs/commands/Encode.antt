-- What `encode [--profile full|narrow]` makes of an input (this library's own, over RFC 8881, section 6.2.1).
use Rattle.std.specs.Prelude.{◌≡◌, List, ℕ, codes}
use Rattle.acl_perm.specs.Profile.{Profile}
use Rattle.acl_nfs4.specs.AceTextFault.{IsAceTextFault}
use Rattle.acl_nfs4.specs.Programs.{Encodes}
use Rattle.acl_nfs4.specs.declared.text.fault.AceTextFault.{AceTextFault}
use Rattle.aclck.specs.Answer.{Answer, AnswersYes}
use Rattle.aclck.specs.declared.answer.RunFault.{RunFault}
use Rattle.aclck.specs.declared.answer.RunFault.TheVariants as fault
use Rattle.aclck.specs.Definition.{Definition, of_profile}
use Rattle.aclck.specs.Run.{of_text}

-- the fault is one that these bytes have as the text of a list of the profile
pub record IsNfsTextFault (p : Profile) (input : List ℕ) (f : RunFault) : Type 0 where
  pub found : AceTextFault
  pub is : f ≡ fault.NfsText found
  pub has : IsAceTextFault p input found

-- the bytes that spell the list of the text, or a fault that the input has
abbrev pub EncodeAnswer : Profile → List ℕ → Answer → Type 0
EncodeAnswer p input = AnswersYes (Encodes p input) (IsNfsTextFault p input)

-- the command
abbrev pub encode : Definition
encode = of_profile (codes "encode") EncodeAnswer (λ p. of_text)
