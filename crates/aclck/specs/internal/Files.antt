-- Why the file of a POSIX text was not read (this library's own, over acl(5)).
use Rattle.std.specs.Prelude.{List, ℕ, Option}
use Rattle.acl_posix.specs.Names.{Table}
use Rattle.aclck.specs.Answer.{origin_of}
use Rattle.aclck.specs.PosixAnswer.{IsPosixFault}
use Rattle.aclck.specs.declared.answer.RunFault.{RunFault}
use Rattle.aclck.specs.internal.Reading.{HasInput, Unread}

-- the input is refused with this fault as the text of a file, or a read failed, or memory ran out
abbrev pub IsNoFile : Table → Option (List ℕ) → RunFault → Type 0
IsNoFile names known e = Unread (HasInput (λ input. IsPosixFault names input e) known) (origin_of e)
