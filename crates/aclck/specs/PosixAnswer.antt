-- What the engines of POSIX texts make of an input (this library's own, over acl(5)).
use Rattle.std.specs.Prelude.{◌≡◌, List, ℕ}
use Rattle.aclck.specs.Answer.{Answer, AnswersYes}
use Rattle.acl_posix.specs.Grammar.{Reads}
use Rattle.acl_posix.specs.Names.{Table}
use Rattle.acl_posix.specs.Programs.{MakesOfFile}
use Rattle.acl_posix.specs.TextFault.{IsTextFault}
use Rattle.acl_posix.specs.declared.file.PosixFile.{PosixFile}
use Rattle.acl_posix.specs.declared.text_fault.TextFault.{TextFault}
use Rattle.aclck.specs.declared.answer.RunFault.{RunFault}
use Rattle.aclck.specs.declared.answer.RunFault.TheVariants as fault

-- the fault is one that these bytes have as the text of a file, with these names
pub record IsPosixFault (names : Table) (input : List ℕ) (f : RunFault) : Type 0 where
  pub found : TextFault
  pub is : f ≡ fault.Posix found
  pub has : IsTextFault input names found

-- the text that is made of the file, or a fault that the input has
abbrev pub WritesAnswer : Table → (PosixFile → List ℕ) → List ℕ → Answer → Type 0
WritesAnswer names made input = AnswersYes (MakesOfFile (Reads input names) made) (IsPosixFault names input)
