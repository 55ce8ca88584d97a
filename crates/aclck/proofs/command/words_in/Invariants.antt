use Rattle.std.proofs.Common.{◌≡◌, take}
use Rattle.aclck.specs.Line.{texts}
use Rattle.aclck.proofs.command.words_in.Given as goal

abbrev pub invariant-loop-word : goal.invariant-loop-word
invariant-loop-word l = texts l.all.items ≡ texts (take l.word-index l.words)
