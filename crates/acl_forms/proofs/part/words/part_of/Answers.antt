use Rattle.std.proofs.Common.{◌<◌, ◌≤◌, arith, inr, refl}
use Rattle.acl_nfs4.specs.internal.Cursor.{place}
use Rattle.acl_forms.specs.internal.AnyAces.{any_ace_of, reader_of}
use Rattle.acl_forms.proofs.AnyAces.{kept_most, sofar_all, sofar_more, sofar_none, sofar_stop}
use Rattle.acl_nfs4.proofs.Exits.{exit_is}
use Rattle.acl_forms.proofs.part.words.part_of.Goals as goal

pub loop-place-init : goal.loop-place-init
loop-place-init c = rw (c.new-list.ensures, c.new-left_out.ensures.items) (record {
  sofar = sofar_none (reader_of c.args.layout) c.args.count (place c.args.cursor.now);
  light = omega arith;
  accepted = record { count = omega arith; weight = omega arith; each = tt };
  heavy = omega arith;
  few = omega arith;
  below = omega arith;
})

pub returns-in_err-ace : goal.returns-in_err-ace
returns-in_err-ace c =
    let lt : c.loop-place.place < c.args.count = (let h = c.loop-place-test.true in omega arith) in
    rw (exit_is c.from_residual.result c.from_residual.ensures.1)
    (inr (sofar_stop (reader_of c.args.layout) c.args.count c.loop-place.place c.loop-place.weight c.loop-place.list
    c.loop-place.left_out.items (place c.args.cursor.now) (place c.loop-place.cursor)
    c.in_err-ace.field-0.0 c.loop-place.invariant.sofar lt c.in_err-ace.ensures.exact))

pub loop-place-preserved : goal.loop-place-preserved
loop-place-preserved c =
    let lt : c.loop-place.place < c.args.count = (let h = c.loop-place-test.true in omega arith) in
    let more =
    sofar_more (reader_of c.args.layout) c.args.count c.loop-place.place c.loop-place.weight c.loop-place.list
    c.loop-place.left_out.items (place c.args.cursor.now) (place c.loop-place.cursor)
    (any_ace_of c.in_ok-ace.ace, place c.next_ace.new.cursor) c.loop-place.invariant.sofar lt
    c.in_ok-ace.ensures.exact in
    let most = kept_most c.loop-place.list (any_ace_of c.in_ok-ace.ace) in
    record {
      sofar = rw (
        c.bits.ensures.value,
        c.in_ok-add.ensures.kept,
        c.in_ok-add.ensures.left_out,
        c.offset_of-offset.ensures,
      ) more;
      light = rw c.bits.ensures.value c.in_ok-ace.ensures.light;
      accepted = c.in_ok-add.ensures.good;
      heavy = rw (c.bits.ensures.value, c.in_ok-add.ensures.kept)
          (omega (arith, most.heavy, c.loop-place.invariant.heavy));
      few = rw c.in_ok-add.ensures.kept (omega (arith, most.long, c.loop-place.invariant.few));
      below = omega (arith, lt);
    }

pub returns : goal.returns
returns c =
    let sofar = c.loop-place.invariant.sofar in
    let past : c.args.count ≤ c.loop-place.place = (let h = c.loop-place-test.false in omega arith) in (
      sofar.whole,
      sofar_all (reader_of c.args.layout) c.args.count c.loop-place.place c.loop-place.weight c.loop-place.list
          c.loop-place.left_out.items (place c.args.cursor.now) (place c.loop-place.cursor) sofar past,
      record { flags = refl; kept = sofar.kept; left_out = sofar.left_out },
    )
