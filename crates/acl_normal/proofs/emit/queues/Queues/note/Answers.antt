use Rattle.std.proofs.Common.{◌≡◌, ◌+◌, true}
use Rattle.acl_normal.proofs.Common.{ap, AreNoted, ColumnKey, arith, has_bit, is_user, is_users, mask_here, principal_here, slot_of, subst, sym, ◌∙◌}
use Rattle.acl_normal.specs.internal.Places.{kind_here}
use Rattle.acl_normal.specs.internal.emit.Queues.{PutsPlace}
use Rattle.acl_normal.proofs.emit.NotedQueues.{noted_on, noted_place, noted_up_to}
use Rattle.acl_normal.proofs.rows.FirstPlaces.{waits_here}
use Rattle.acl_normal.proofs.emit.queues.Queues.note.Goals as goal

pub loop-right-preserved : goal.loop-right-preserved
loop-right-preserved c =
    let xs = c.args.rows.now in
    let place = c.args.place in
    let old = c.loop-right.self in
    let b = c.in-Some.right.bit in
    let next = c.in-Some.ensures.some in
    let before : AreNoted xs (place + 1) b old =
    noted_up_to xs place old c.mask_at-mask.ensures.mask next.above next.lacks c.loop-right.invariant.noted in
    let has : has_bit (mask_here xs place) b ≡ true =
    ap (λ v. has_bit v b) (sym c.mask_at-mask.ensures.mask) ∙ next.has in
    let slot : c.slot.result ≡ slot_of (kind_here xs place) (is_user (principal_here xs place)) b =
    c.slot.ensures ∙ ap (λ (k : ColumnKey). slot_of k.1 (is_users c.of-class.result) b) c.ace_at-ace.ensures
    ∙ ap (λ u. slot_of (kind_here xs place) u b)
    (c.of-class.ensures ∙ ap is_user (c.whom.ensures ∙ ap (λ (k : ColumnKey). k.0) c.ace_at-ace.ensures)) in record {
      noted = noted_on (kind_here xs place) (is_user (principal_here xs place)) xs place b old c.put.new.self
          (waits_here b xs place c.mask_at-mask.ensures.list.tidy.quiet has) c.in-Some.right.within
          (subst (λ v. PutsPlace place v old c.put.new.self) slot c.in_ok-put.ensures) before;
      within = omega (arith, c.in-Some.right.within);
    }

pub returns : goal.returns
returns c =
    noted_place c.args.rows.now c.args.place c.loop-right.self
    (noted_up_to c.args.rows.now c.args.place {n = 21} c.loop-right.self c.mask_at-mask.ensures.mask
    c.loop-right.invariant.within c.in_default.ensures.none c.loop-right.invariant.noted)
