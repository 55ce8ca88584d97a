use Rattle.acl_nfs4.proofs.Common.{ap, arith, length, List, put_mid, ℕ, ◌+◌, ◌-◌}
use Rattle.acl_nfs4.proofs.feed.Streaming.FirstWord.{extends}
use Rattle.acl_nfs4.proofs.feed.stream.StreamBytes.extend.Goals as goal

pub invariant_of-self-2 : goal.invariant_of-self-2
invariant_of-self-2 c =
    let k : ℕ = c.self.inside.filled + length c.split_at.result.0.now - c.self.inside.filled in
    let e = extends c.self.inside.head c.self.inside.body.items c.args.piece.now c.split_at.result.0.now
    c.split_at.result.1.now (put_mid c.self.inside.filled k c.self.inside.head c.copy_from_slice.new.self)
    c.extend_from_slice.new.self.items c.self.inside.filled k c.min.result
    c.self.invariant (λ i. omega (arith, c.type_inv.piece i)) (omega (arith, c.min.ensures))
    (omega (arith, c.min.ensures)) (λ lt. omega (arith, c.min.ensures, lt)) c.split_at.ensures.front
    c.split_at.ensures.back (omega arith)
    (ap (λ (t : List ℕ). put_mid c.self.inside.filled k c.self.inside.head t)
    c.copy_from_slice.ensures.after) c.in_ok-extend_from_slice.ensures.items in
    e.is
