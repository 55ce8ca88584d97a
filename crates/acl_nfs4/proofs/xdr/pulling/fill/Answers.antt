use Rattle.acl_nfs4.proofs.Common.{ap, arith, Consumes-trans, length, length-append, length-take, take, ℕ, ◌++◌, ◌+◌, ◌-◌, ◌∙◌, ◌≡◌, ◌≤◌}
use Rattle.acl_nfs4.proofs.xdr.FromSource.{field_is, filled_on, piece_bytes}
use Rattle.acl_nfs4.proofs.xdr.pulling.fill.Goals as goal

pub loop-filled-preserved : goal.loop-filled-preserved
loop-filled-preserved g c =
    let inv = c.loop-filled.invariant in
    let n : c.in-Ok.n ≤ length c.pull.new.buf = c.in-Ok.ensures.bound.0 in
    let piece : length (take c.in-Ok.n c.pull.new.buf) ≡ c.in-Ok.n = omega (arith, length-take {A = ℕ}) in
    let so_far = filled_on c.args.room.now c.loop-filled.room inv.piece c.pull.new.buf c.args.held c.loop-filled.filled
    (c.args.end - c.loop-filled.filled) c.in-Ok.n (omega arith) n inv.so_far in
    record {
      piece = inv.piece ++ take c.in-Ok.n c.pull.new.buf;
      taken = Consumes-trans _ _ _ _ _ inv.taken c.in-Ok.ensures.bytes.0;
      long = omega (arith, inv.long, piece, length-append inv.piece (take c.in-Ok.n c.pull.new.buf));
      inside = let h = c.loop-filled-test.true in omega (arith, n, c.pull.auto.buf);
      so_far = so_far;
      bytes = piece_bytes c.args.room.now _ _ c.args.held _ (λ i. omega (arith, c.type_inv.room i)) so_far;
      same = c.in-Ok.ensures.count ∙ inv.same;
    }

pub returns : goal.returns
returns g c =
    let inv = c.loop-filled.invariant in
    let end : c.args.held + (c.args.end - c.args.held) ≡ c.loop-filled.filled =
    let h = c.loop-filled-test.false in omega (arith, inv.inside, c.requires.order) in
    let long : length inv.piece ≡ c.args.end - c.args.held =
    let h = c.loop-filled-test.false in omega (arith, inv.inside, inv.long) in
    let room = ap (λ (k : ℕ). take k c.loop-filled.room) end ∙ inv.so_far in (
      inv.piece,
      inv.taken,
      record {
        long = long;
        room = room;
        behind = field_is c.args.room.now c.loop-filled.room inv.piece c.args.held (c.args.end - c.args.held)
            (omega (arith, c.requires.order, c.requires.inside)) room long;
        bytes = inv.bytes;
        kept = inv.same;
      },
    )
