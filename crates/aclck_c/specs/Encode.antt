-- Why the text of a list is refused, as a caller from C sees it (this library's own).
use Rattle.std.specs.Prelude.{◌≡◌, ℕ, List, None, Option, Some, codes}
use Rattle.acl_perm.specs.Profile.{Profile}
use Rattle.acl_nfs4.specs.AceTextFault.{IsAceTextFault}
use Rattle.acl_nfs4.specs.declared.text.fault.AceTextFault.{AceTextFault}
use Rattle.acl_nfs4.specs.declared.text.fault.AceTextFault.TheVariants as text
use Rattle.acl_nfs4.specs.declared.xdr.fault.Reason.TheVariants as reason
use Rattle.aclck_c.specs.Refusal.{at_place, in_text}
use Rattle.aclck_c.specs.Words.{reason_called}
use Rattle.aclck_c.specs.declared.refusal.Refusal.{Refusal}

-- the fault of a text, by numbers; none if memory ran out
abbrev pub ace_text_refusal : AceTextFault → Option Refusal
ace_text_refusal (text.TooManyAces line column) = Some (in_text reason.TooManyAces line column)
ace_text_refusal (text.AceType line column) = Some (in_text reason.AceType line column)
ace_text_refusal (text.TooHeavy line column) = Some (in_text reason.TooHeavy line column)
ace_text_refusal (text.WhoLength line column) = Some (in_text reason.WhoLength line column)
ace_text_refusal (text.WhoUtf8 line column) = Some (in_text reason.WhoUtf8 line column)
ace_text_refusal (text.WhoControl line column) = Some (in_text reason.WhoControl line column)
ace_text_refusal (text.SpecialWho line column) = Some (in_text reason.SpecialWho line column)
ace_text_refusal (text.Fields line column) = Some (at_place (reason_called (codes "Fields")) line column)
ace_text_refusal (text.Flag line column) = Some (at_place (reason_called (codes "Flag")) line column)
ace_text_refusal (text.Mask line column) = Some (at_place (reason_called (codes "Mask")) line column)
ace_text_refusal text.Memory = None

-- the text has this fault
pub record IsRefusedText (p : Profile) (text : List ℕ) (shown : Refusal) : Type 0 where
  pub fault : AceTextFault
  pub has : IsAceTextFault p text fault
  pub is : Some shown ≡ ace_text_refusal fault
