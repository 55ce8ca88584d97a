use Rattle.std.proofs.Common.{arith, sym, ◌∙◌}
use Rattle.acl_nfs4.proofs.Exits.{exit_is}
use Rattle.acl_forms.proofs.LetterLemmas.{letters_done, letters_fail, letters_next, letters_union}
use Rattle.acl_forms.proofs.letters.read_letters.Goals as goal

pub returns-in_err-set : goal.returns-in_err-set
returns-in_err-set c =
    exit_is c.from_residual.result c.from_residual.ensures.1
    ∙ letters_fail c.args.table.now c.args.object c.args.wrong c.loop-letter.at c.loop-letter.set
    c.loop-letter.letter-index c.args.field.bytes.now _ (omega arith) c.in_err-set.ensures
    ∙ c.loop-letter.invariant.reads
    ∙ sym (letters_union c.args.table.now c.args.object c.args.wrong c.args.field.column c.args.field.bytes.now)

pub loop-letter-preserved : goal.loop-letter-preserved
loop-letter-preserved c = record {
  place = omega arith;
  reads = sym (letters_next c.args.table.now c.args.object c.args.wrong c.loop-letter.at c.loop-letter.set
      c.loop-letter.letter-index c.args.field.bytes.now _ (omega arith) c.in_ok-set.ensures)
      ∙ c.loop-letter.invariant.reads;
}

pub returns : goal.returns
returns c =
    letters_done c.args.table.now c.args.object c.args.wrong c.loop-letter.at c.loop-letter.set
    c.loop-letter.letter-index c.args.field.bytes.now (omega arith)
    ∙ c.loop-letter.invariant.reads
    ∙ sym (letters_union c.args.table.now c.args.object c.args.wrong c.args.field.column c.args.field.bytes.now)
