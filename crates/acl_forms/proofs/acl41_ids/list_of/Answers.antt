use Rattle.std.proofs.Common.{[], ◌∷◌, ◌<◌, ◌≡◌, ◌∙◌, ◌+◌, ◌-◌, arith, inr, length-append, sym}
use Rattle.acl_nfs4.specs.internal.Cursor.{place}
use Rattle.acl_forms.specs.internal.IdAces.{ace_by_id}
use Rattle.acl_nfs4.proofs.Exits.{exit_is}
use Rattle.acl_forms.proofs.IdLemmas.{ids_done, ids_more, ids_stop}
use Rattle.acl_forms.proofs.acl41_ids.list_of.Goals as goal

pub returns-in_err-ace : goal.returns-in_err-ace
returns-in_err-ace c =
    let some : 0 < c.args.count - c.loop.counter = (let h = c.loop-test.true in omega arith) in
    let read = rw c.weight.ensures.value at c.in_err-ace.ensures.exact in
    rw (exit_is c.from_residual.result c.from_residual.ensures.1)
    (inr (sym c.loop.invariant.reads
    ∙ ids_stop (c.args.count - c.loop.counter) c.loop.list (place c.loop.cursor) c.in_err-ace.field-0.0 some
    read))

pub loop-preserved : goal.loop-preserved
loop-preserved c =
    let left = c.args.count - c.loop.counter in
    let some : 0 < left = (let h = c.loop-test.true in omega arith) in
    let less : c.args.count - (c.loop.counter + 1) ≡ left - 1 = omega arith in
    let read = rw c.weight.ensures.value at c.in_ok-ace.ensures.exact in
    let more = ids_more left c.loop.list (place c.loop.cursor)
    (ace_by_id c.in_ok-ace.ace, place c.next_ace.new.cursor) some read in
    rw (c.in_ok-push.ensures.added, less) (record {
      reads = sym more ∙ c.loop.invariant.reads;
      accepted = c.in_ok-push.ensures.good;
      few = omega (
        arith,
        some,
        c.loop.invariant.few,
        length-append c.loop.list (ace_by_id c.in_ok-ace.ace ∷ []),
      );
    })

pub returns : goal.returns
returns c =
    sym c.loop.invariant.reads
    ∙ ids_done (c.args.count - c.loop.counter) c.loop.list (place c.loop.cursor)
    (let h = c.loop-test.false in let e = c.loop.auto.counter-end in omega arith)
