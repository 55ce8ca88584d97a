use Rattle.std.proofs.Common.{◌≡◌, ap, sym, ◌∙◌}
use Rattle.std.specs.Prelude.{◌∷◌, bit_and}
use Rattle.acl_nfs4.specs.Ace.{ace}
use Rattle.acl_eval.specs.Situation.{situation}
use Rattle.acl_eval.specs.Grant.{is_allow}
use Rattle.acl_eval.specs.Scan.{scan, without}
use Rattle.acl_eval.proofs.Scans.{scan-allowed, last_allowed, scan-no_common, not_applied, some_left}
use Rattle.acl_eval.proofs.whole_request.scan.Goals.{else-common-ne0-via-then-common-ne0+else-applies, else-common-ne0-via-else-common-ne0}
use Rattle.acl_eval.proofs.whole_request.scan.Goals as goal

pub loop-ace-preserved : goal.loop-ace-preserved
loop-ace-preserved c =
    let s = situation c.args.matcher.now.object c.args.matcher.now.requester in
    let a = ace c.in-Some.ace in
    let left = c.loop-ace.left in
    let whole = ap (λ list. scan list s left) (sym c.in-Some.ensures.steps.0) ∙ c.loop-ace.invariant.3 in
    let step : scan c.next.new.self s left ≡ scan (a ∷ c.next.new.self) s left = elim c.else-common-ne0.branch [
      | else-common-ne0-via-then-common-ne0+else-applies w ↦
          not_applied a c.next.new.self s left (sym w.applies.ensures ∙ w.if-applies.false)
      | else-common-ne0-via-else-common-ne0 w ↦
          scan-no_common a c.next.new.self s left (ap (bit_and left) (sym c.bits.ensures.value) ∙ w.if-common-ne0.false)
    ] in
    (tt, tt, c.loop-ace.invariant.2, step ∙ whole)

pub loop-ace-preserved-then-applies : goal.loop-ace-preserved-then-applies
loop-ace-preserved-then-applies c =
    let s = situation c.args.matcher.now.object c.args.matcher.now.requester in
    let a = ace c.in-Some.ace in
    let left = c.loop-ace.left in
    let whole = ap (λ list. scan list s left) (sym c.in-Some.ensures.steps.0) ∙ c.loop-ace.invariant.3 in
    let step : scan c.next.new.self s (without left c.bits.result) ≡ scan (a ∷ c.next.new.self) s left =
    ap (λ m. scan c.next.new.self s (without left m)) c.bits.ensures.value
    ∙ scan-allowed a c.next.new.self s left c.loop-ace.invariant.2
    (sym c.applies.ensures ∙ c.if-applies.true) (ap is_allow c.in-Allow-2.is) in
    (tt, tt, some_left left c.bits.result c.if-common-left.false, step ∙ whole)

pub returns-in-Allow : goal.returns-in-Allow
returns-in-Allow c =
    let s = situation c.args.matcher.now.object c.args.matcher.now.requester in
    last_allowed (ace c.in-Some.ace) c.next.new.self s c.loop-ace.left c.loop-ace.invariant.2
    (sym c.applies.ensures ∙ c.if-applies.true) (ap is_allow c.in-Allow.is)
    (ap (bit_and c.loop-ace.left) (sym c.bits.ensures.value) ∙ c.if-common-left.true)
    ∙ ap (λ list. scan list s c.loop-ace.left) (sym c.in-Some.ensures.steps.0) ∙ c.loop-ace.invariant.3
