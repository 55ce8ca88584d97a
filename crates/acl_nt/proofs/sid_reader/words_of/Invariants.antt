use Rattle.std.proofs.Common.{◌≡◌, take}
use Rattle.std.specs.Prelude.{map}
use Rattle.byteorder.specs.Endian.{little_number}
use Rattle.acl_nt.proofs.sid_reader.words_of.Given as goal

-- the numbers so far are those of the pieces so far
abbrev pub invariant-loop-one : goal.invariant-loop-one
invariant-loop-one l = l.words.items ≡ map (little_number 4) (take l.one-index l.stored)
