use Rattle.acl_nfs4.proofs.Common.{arith, inr, most_aces, place, profile_of, sym, ◌<◌, ◌∙◌}
use Rattle.acl_nfs4.specs.internal.PartReading.{any_ace}
use Rattle.acl_nfs4.proofs.Exits.{exit_is}
use Rattle.acl_nfs4.proofs.xdr.Parts.{part_done, part_few, part_heavy, part_more, part_refused}
use Rattle.acl_nfs4.proofs.xdr.access_part.part_of.Goals as goal

pub returns-in_err-ace : goal.returns-in_err-ace
returns-in_err-ace c =
    rw (exit_is c.from_residual.result c.from_residual.ensures.1)
    (inr (sym c.loop-left.invariant.reads
    ∙ part_refused (profile_of c.args.profile) c.loop-left.left c.loop-left.weight c.loop-left.part
    (place c.loop-left.cursor) c.in_err-ace.field-0.0 (let h = c.loop-left-test.true in omega arith)
    c.in_err-ace.ensures.exact))

pub loop-left-preserved : goal.loop-left-preserved
loop-left-preserved c =
    let some : 0 < c.loop-left.left = (let h = c.loop-left-test.true in omega arith) in
    let more = part_more (profile_of c.args.profile) c.loop-left.left c.loop-left.weight c.loop-left.part
    (place c.loop-left.cursor) (any_ace c.in_ok-ace.ace, place c.any_ace.new.cursor) some c.in_ok-ace.ensures.exact in
    rw (c.bits.ensures.value, c.in_ok-add.ensures) (record {
      reads = sym more ∙ c.loop-left.invariant.reads;
      light = c.in_ok-ace.ensures.light;
      few = part_few c.loop-left.part (any_ace c.in_ok-ace.ace) c.loop-left.left most_aces some
          c.loop-left.invariant.few;
      heavy = part_heavy c.loop-left.part (any_ace c.in_ok-ace.ace) c.loop-left.weight c.loop-left.invariant.heavy;
    })

pub add-requires-clause-few : goal.add-requires-clause-few
add-requires-clause-few c =
    let some : 0 < c.loop-left.left = (let h = c.loop-left-test.true in omega arith) in
    omega (arith, some, c.loop-left.invariant.few)

pub add-requires-clause-light : goal.add-requires-clause-light
add-requires-clause-light c = omega (arith, c.loop-left.invariant.heavy, c.in_ok-ace.ensures.light)

pub returns : goal.returns
returns c =
    sym c.loop-left.invariant.reads
    ∙ part_done (profile_of c.args.profile) c.loop-left.left c.loop-left.weight c.loop-left.part
    (place c.loop-left.cursor) (let h = c.loop-left-test.false in omega arith)
