use Rattle.acl_nfs4.proofs.Common.{ap, arith, inl, inr, List, profile_of, refl, ℕ, ◌++◌, ◌∙◌}
use Rattle.acl_perm.specs.Devices.{one_more}
use Rattle.acl_nfs4.proofs.Exits.{exit_is}
use Rattle.acl_nfs4.proofs.xdr.PulledList.{drawn_after, halted_after, halted_read, halted_unread, pulled_all, pulled_light, pulled_on, pulled_stops}
use Rattle.acl_nfs4.proofs.list.Within.{code_profile}
use Rattle.acl_nfs4.proofs.xdr.decoder.read_value.Goals as goal

pub returns-in_err-count-clause-given : goal.returns-in_err-count-clause-given
returns-in_err-count-clause-given g c =
    let (piece, taken, drawn) = c.in_err-count.ensures.drawn in
    rw (exit_is c.from_residual.result c.from_residual.ensures.1) (piece, taken, drawn (profile_of c.args.profile))

pub loop-init : goal.loop-init
loop-init g c =
    let (piece, taken, drawn) = c.in_ok-count.ensures.drawn in
    rw c.new-body.ensures.items
    (record { given = piece; taken = taken; so_far = drawn.0 (profile_of c.args.profile); same = drawn.1 })

pub pull_ace-requires-clause-light : goal.pull_ace-requires-clause-light
pull_ace-requires-clause-light g c = pulled_light c.loop.invariant.so_far

pub returns-in_err-ace-clause-given : goal.returns-in_err-ace-clause-given
returns-in_err-ace-clause-given g c =
    let inv = c.loop.invariant in
    let r = c.in_err-ace.ensures in
    rw (exit_is c.from_residual-in_err-ace.result c.from_residual-in_err-ace.ensures.1) (
      inv.given ++ r.given,
      halted_after _ inv.given inv.taken r,
      pulled_stops inv.given (code_profile c.args.profile (omega arith)) inv.so_far c.loop-test.true (omega arith) r,
    )

pub returns-in_err-ace-clause-read : goal.returns-in_err-ace-clause-read
returns-in_err-ace-clause-read g c =
    rw (exit_is c.from_residual-in_err-ace.result c.from_residual-in_err-ace.ensures.1)
    (λ is. halted_read c.in_err-ace.ensures is ∙ ap one_more c.loop.invariant.same)

pub returns-in_err-ace-clause-unread : goal.returns-in_err-ace-clause-unread
returns-in_err-ace-clause-unread g c =
    rw (exit_is c.from_residual-in_err-ace.result c.from_residual-in_err-ace.ensures.1)
    (elim (halted_unread c.in_err-ace.ensures) [
      | inl is ↦ inl is
      | inr kept ↦ inr (kept ∙ c.loop.invariant.same)
    ])

pub returns-in_err-extend_from_slice-clause-given : goal.returns-in_err-extend_from_slice-clause-given
returns-in_err-extend_from_slice-clause-given g c =
    let inv = c.loop.invariant in
    let r = c.in_ok-ace.ensures in
    rw (exit_is c.from_residual-in_err-extend_from_slice.result c.from_residual-in_err-extend_from_slice.ensures.1)
    (inv.given ++ r.given, drawn_after _ inv.given inv.taken r.drawn, inr (inr (inl refl)))

pub loop-preserved : goal.loop-preserved
loop-preserved g c =
    let inv = c.loop.invariant in
    let r = c.in_ok-ace.ensures in
    record {
      given = inv.given ++ r.given;
      taken = drawn_after _ inv.given inv.taken r.drawn;
      so_far = rw (c.in_ok-extend_from_slice.ensures.items ∙ ap (λ (y : List ℕ). c.loop.body.items ++ y) r.drawn.front)
          (pulled_on inv.given (code_profile c.args.profile (omega arith)) inv.so_far c.loop-test.true
          (omega (arith, c.len.ensures)) r);
      same = r.drawn.kept ∙ inv.same;
    }

pub invariant_of-result : goal.invariant_of-result
invariant_of-result g c = (pulled_all c.loop.invariant.so_far
    (omega (arith, c.loop-test.false, c.loop.auto.counter-end))).1

pub returns-clause-given : goal.returns-clause-given
returns-clause-given g c =
    let inv = c.loop.invariant in
    (inv.given, inv.taken, (pulled_all inv.so_far (omega (arith, c.loop-test.false, c.loop.auto.counter-end))).0)
