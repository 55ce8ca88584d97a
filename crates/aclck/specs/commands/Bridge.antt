-- `bridge`: what it makes of an input (this library's own, over POSIX.1e draft 17, section 23, and RFC 8881, section
-- 6.2.1).
use Rattle.std.specs.Prelude.{◌≡◌, ◌⊎◌, List, ℕ, codes}
use Rattle.acl_posix.specs.Grammar.{Reads}
use Rattle.acl_posix.specs.Names.{Table}
use Rattle.acl_eval.specs.Programs.{Bridges, IsPastLimits}
use Rattle.aclck.specs.Answer.{Answer, AnswersYes}
use Rattle.aclck.specs.PosixAnswer.{IsPosixFault}
use Rattle.aclck.specs.declared.answer.RunFault.{RunFault}
use Rattle.aclck.specs.declared.answer.RunFault.TheVariants as fault
use Rattle.aclck.specs.Definition.{Definition, of_names}

-- the fault says that the list of the access ACL is above a limit; the input is the text of the file
abbrev pub IsLimits : Table → List ℕ → RunFault → Type 0
IsLimits names input f = (f ≡ fault.Limits) × IsPastLimits (Reads input names)

-- the fault is one that the input has
abbrev pub IsBridgeRefusal : Table → List ℕ → RunFault → Type 0
IsBridgeRefusal names input f = IsPosixFault names input f ⊎ IsLimits names input f

-- the bytes of the list, or a fault that the input has
abbrev pub BridgeAnswer : Table → List ℕ → Answer → Type 0
BridgeAnswer names input = AnswersYes (Bridges (Reads input names)) (IsBridgeRefusal names input)

-- the command, `bridge [NAMES..]`
abbrev pub bridge : Definition
bridge = of_names (codes "bridge") BridgeAnswer
