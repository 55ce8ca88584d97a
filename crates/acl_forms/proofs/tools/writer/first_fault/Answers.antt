use Rattle.std.proofs.Common.{ap, arith, length, sym, ℕ, ◌∙◌, ◌+◌}
use Rattle.acl_nfs4.specs.Ace.{ace}
use Rattle.acl_forms.specs.internal.FaultSearch.{tools_fault_from}
use Rattle.acl_forms.proofs.FormLemmas.{ace_refused, fault_passed, none_left, text_long}
use Rattle.acl_forms.proofs.tools.writer.first_fault.Goals as goal

pub returns-in-Some-ace_fault : goal.returns-in-Some-ace_fault
returns-in-Some-ace_fault c =
    let (can_next, is_finite, same, room, short) = c.loop-ace.invariant in
    sym (ace_refused c.args.object c.loop-ace.place c.loop-ace.done c.loop-ace.ace-iterator c.next.new.self
    (ace c.in-Some.ace) c.in-Some-ace_fault.reason c.in-Some.ensures.steps.0 (sym c.in-Some-ace_fault.ensures)) ∙ same

pub returns-then-done-gt-LONGEST_TEXT : goal.returns-then-done-gt-LONGEST_TEXT
returns-then-done-gt-LONGEST_TEXT c =
    let (can_next, is_finite, same, room, short) = c.loop-ace.invariant in
    let size = c.len-done.ensures.value ∙ ap length c.fill.ensures.text in
    sym (text_long c.args.object c.loop-ace.place c.loop-ace.done c.loop-ace.ace-iterator c.next.new.self
    (ace c.in-Some.ace) c.in-Some.ensures.steps.0 (sym c.in_default.ensures)
    (omega (arith, size, c.if-done-gt-LONGEST_TEXT.true))) ∙ same

pub loop-ace-preserved : goal.loop-ace-preserved
loop-ace-preserved c =
    let (can_next, is_finite, same, room, short) = c.loop-ace.invariant in
    let size = c.len-done.ensures.value ∙ ap length c.fill.ensures.text in
    let passed = fault_passed c.args.object c.loop-ace.place c.loop-ace.done c.loop-ace.ace-iterator c.next.new.self
    (ace c.in-Some.ace) c.in-Some.ensures.steps.0 (sym c.in_default.ensures)
    (omega (arith, size, c.if-done-gt-LONGEST_TEXT.false)) in (
      tt,
      tt,
      ap (λ (n : ℕ). tools_fault_from c.args.object (c.loop-ace.place + 1) (c.loop-ace.done + n) c.next.new.self) size
          ∙ sym passed ∙ same,
      omega (arith, ap length c.in-Some.ensures.steps.0, room),
      omega (arith, c.if-done-gt-LONGEST_TEXT.false),
    )

pub returns : goal.returns
returns c =
    let (can_next, is_finite, same, room, short) = c.loop-ace.invariant in
    sym (none_left c.args.object c.loop-ace.place c.loop-ace.done c.loop-ace.ace-iterator c.in-None.ensures.steps.0.0)
    ∙ same
