use Rattle.std.proofs.Common.{drop, ◌+◌, ◌≡◌}
use Rattle.acl_forms.specs.internal.LetterReading.{letters_from}
use Rattle.acl_forms.proofs.letters.read_letters.Given as goal

-- the letters that are left give what the whole field gives
abbrev pub invariant-loop-letter : goal.invariant-loop-letter
invariant-loop-letter l = record {
  place : l.at ≡ l.field.column + l.letter-index;
  reads : letters_from l.table l.object l.wrong l.at l.set (drop l.letter-index l.field.bytes.now)
      ≡ letters_from l.table l.object l.wrong l.field.column 0 l.field.bytes.now;
}
