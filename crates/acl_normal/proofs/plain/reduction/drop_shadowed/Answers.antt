use Rattle.std.proofs.Common.{refl}
use Rattle.acl_normal.proofs.Common.{ace, aces_in, ap, arith, column, principal_of, take, ◌∙◌}
use Rattle.acl_normal.specs.internal.Best.{is_shadowed}
use Rattle.acl_normal.proofs.plain.Gathered.{Marks}
use Rattle.acl_normal.proofs.plain.Reached.{reached_more}
use Rattle.acl_normal.proofs.plain.reduction.drop_shadowed.Goals as goal

pub loop-place-preserved : goal.loop-place-preserved
loop-place-preserved c =
    let before = take c.loop-place.place c.args.aces.now in
    let p = principal_of (ace c.index-aces-place.result) in
    let shadow : Marks c.shadow.result.bits (is_shadowed p (aces_in before)) =
    λ bit. c.shadow.ensures bit ∙ ap (λ p. is_shadowed p (aces_in c.split_at.result.0.now) bit) c.principal.ensures
    ∙ ap (λ v. is_shadowed p (aces_in v) bit) c.split_at.ensures.front in
    λ bit. ap (λ v. column (aces_in v) bit) c.in_ok-push.ensures.items
    ∙ reached_more c.args.aces.now c.index-aces-place.result c.loop-place.kept.items _ c.loop-place.place _
    (omega arith) c.index-aces-place.is refl refl shadow c.difference-mask.ensures.meaning c.loop-place.invariant bit
