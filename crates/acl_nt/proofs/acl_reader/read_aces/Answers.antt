use Rattle.std.proofs.Common.{◌∙◌, ◌≡◌, ◌+◌, ◌-◌, ◌++◌, ap, append-nil, arith, sym}
use Rattle.acl_nt.specs.AclAt.{aces_conditions, deciding_aces, other_nt_aces, places}
use Rattle.acl_nt.specs.Conditions.{first_unmet}
use Rattle.acl_nt.specs.internal.Parts.{aces}
use Rattle.acl_nt.proofs.AceLemmas.{IsAceRead, deciding_left, fails_here, faults_left, others_left, pair_is, places_done}
use Rattle.acl_nt.proofs.ConditionLemmas.{exit_is}
use Rattle.acl_nt.proofs.acl_reader.read_aces.Goals as goal

pub returns-in_err-ace : goal.returns-in_err-ace
returns-in_err-ace c =
    let left = c.args.count - c.loop.counter in
    let next = c.args.count - (c.loop.counter + 1) in
    let some : left ≡ next + 1 = (let h = c.loop-test.true in omega arith) in
    rw (exit_is c.from_residual-in_err-ace.result c.from_residual-in_err-ace.ensures.1)
    (fails_here c.in_err-ace.field-0.0 c.args.role c.args.bytes.now c.args.end left next c.loop.at
    (aces_conditions c.args.role c.args.bytes.now c.args.end (places c.args.count c.args.bytes.now c.args.from)) some
    c.loop.invariant.fault c.in_err-ace.ensures.exact)

pub loop-preserved : goal.loop-preserved
loop-preserved c =
    let left = c.args.count - c.loop.counter in
    let next = c.args.count - (c.loop.counter + 1) in
    let some : left ≡ next + 1 = (let h = c.loop-test.true in omega arith) in
    let read : IsAceRead c.args.bytes.now c.loop.at _ _ =
    (record { ace_is = c.in_ok-ace.ensures.exact.1; other_is = c.other_at.ensures }) in
    record {
      within = (let e = c.half.ensures in let n = c.in_ok-ace.ensures.roomy.next in omega (arith, e, n));
      fault = faults_left c.args.role c.args.bytes.now c.args.end left next c.loop.at c.half.result some c.half.ensures
          c.in_ok-ace.ensures.exact.0 ∙ c.loop.invariant.fault;
      deciding = deciding_left c.args.role c.args.bytes.now left next c.loop.at c.half.result (aces c.loop.list) _ _ _
          some c.half.ensures c.in_ok-push.ensures read ∙ c.loop.invariant.deciding;
      others = others_left c.args.role c.args.bytes.now left next c.loop.at c.half.result (aces c.loop.list) _ _ _
          some c.half.ensures c.in_ok-push.ensures read ∙ c.loop.invariant.others;
    }

pub returns : goal.returns
returns c =
    let none = places_done (c.args.count - c.loop.counter) c.args.bytes.now c.loop.at
    (let h = c.loop-test.false in let e = c.loop.auto.counter-end in omega arith) in (
      sym c.loop.invariant.fault
          ∙ ap (λ l. first_unmet (aces_conditions c.args.role c.args.bytes.now c.args.end l)) none,
      pair_is (aces c.loop.list)
          (deciding_aces c.args.role c.args.bytes.now (places c.args.count c.args.bytes.now c.args.from))
          (other_nt_aces c.args.role c.args.bytes.now (places c.args.count c.args.bytes.now c.args.from))
          (sym (append-nil (aces c.loop.list).0)
          ∙ sym (ap (λ l. (aces c.loop.list).0 ++ deciding_aces c.args.role c.args.bytes.now l) none)
          ∙ c.loop.invariant.deciding)
          (sym (append-nil (aces c.loop.list).1)
          ∙ sym (ap (λ l. (aces c.loop.list).1 ++ other_nt_aces c.args.role c.args.bytes.now l) none)
          ∙ c.loop.invariant.others),
    )
