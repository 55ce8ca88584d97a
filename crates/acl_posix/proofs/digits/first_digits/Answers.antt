use Rattle.acl_posix.proofs.Common.{ap, arith, false, get_or, is_ascii_digit, length, list_all_more, sym, true, ◌&&◌, ◌<◌, ◌∙◌, ◌≡◌}
use Rattle.acl_posix.proofs.digits.DigitLemmas.{digit_at, digit_more}
use Rattle.acl_posix.proofs.digits.first_digits.Goals as goal

pub loop-count-preserved : goal.loop-count-preserved
loop-count-preserved c =
    let inv = c.loop-count.invariant in
    let bytes = c.args.bytes.now in
    let count = c.loop-count.count in
    let inside : count < length bytes = omega (arith, c.min-most.ensures, c.loop-count-test.true) in
    let digit = sym c.if-is_ascii_digit.ensures.value in
    record {
      within = omega (arith, c.loop-count-test.true);
      digits = list_all_more is_ascii_digit bytes count 0 inside
          ∙ ap (λ t. t && is_ascii_digit (get_or bytes count 0)) inv.digits ∙ digit;
      value = omega (arith, digit_more bytes count inside digit, inv.value, c.from.ensures);
    }

pub returns-else-is_ascii_digit : goal.returns-else-is_ascii_digit
returns-else-is_ascii_digit c =
    let bytes = c.args.bytes.now in
    let inside : c.loop-count.count < length bytes = omega (arith, c.min-most.ensures, c.loop-count-test.true) in
    record {
      inside = omega arith;
      few = omega (arith, c.min-most.ensures, c.loop-count-test.true);
      digits = c.loop-count.invariant.digits;
      value = c.loop-count.invariant.value;
      all = λ all.
          let wrong : false ≡ true = c.if-is_ascii_digit.ensures.value ∙ digit_at bytes c.loop-count.count inside all in
          absurd cc;
    }

pub returns-after-loop-count : goal.returns-after-loop-count
returns-after-loop-count c =
    let within = c.loop-count.invariant.within in
    record {
      inside = omega (arith, c.min-most.ensures, within);
      few = omega (arith, c.min-most.ensures, within);
      digits = c.loop-count.invariant.digits;
      value = c.loop-count.invariant.value;
      all = λ _. omega (arith, c.min-most.ensures, within, c.loop-count-test.false);
    }
