use Rattle.std.proofs.Common.{◌+◌, refl}
use Rattle.acl_normal.proofs.Common.{ace, aces_in, arith, column, default_at, drop, has_bit, is_needed, principal_of, ◌&&◌}
use Rattle.acl_normal.proofs.plain.Gathered.{Marks}
use Rattle.acl_normal.proofs.plain.NeededBits.{needed_more}
use Rattle.acl_normal.proofs.plain.reduction.drop_needless.Goals as goal

pub loop-place-preserved : goal.loop-place-preserved
loop-place-preserved c =
    let y = c.index-aces-place.result in
    let mask : Marks c.needed-mask.result.bits (λ bit. has_bit y.mask.bits bit
    && is_needed (default_at c.allowed_to_everyone-allowed.result.bits bit) (principal_of (ace y)) y.kind
    (column (aces_in (drop (c.loop-place.place + 1) c.args.aces.now)) bit)) =
    λ bit. rw (← c.split_at.ensures.back) (c.needed-mask.ensures bit) in
    λ bit. rw c.in_ok-push.ensures.items (needed_more c.args.aces.now y c.loop-place.kept.items _
    c.loop-place.place c.allowed_to_everyone-allowed.result.bits (omega arith) c.index-aces-place.is refl refl
    c.allowed_to_everyone-allowed.ensures mask bit _ (c.loop-place.invariant bit))
