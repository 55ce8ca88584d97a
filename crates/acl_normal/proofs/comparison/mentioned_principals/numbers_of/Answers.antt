use Rattle.std.proofs.Common.{None, arith, refl, ◌≡◌, ◌∙◌}
use Rattle.acl_normal.proofs.Common.{slice_index_or}
use Rattle.acl_normal.proofs.comparison.MentionedNumbers.{numbers_step}
use Rattle.acl_normal.proofs.comparison.mentioned_principals.numbers_of.Goals as goal
use Rattle.acl_normal.proofs.comparison.mentioned_principals.numbers_of.Goals.{in-Some+in_ok-push-2, in_default}
use Rattle.acl_normal.specs.internal.comparison.MentionedRows.{with_found}

pub loop-found-preserved : goal.loop-found-preserved
loop-found-preserved c =
    let more : c.match-found.whole.items
    ≡ with_found c.loop-found.whole.items (slice_index_or c.args.table.now c.loop-found.found-index None) =
    elim c.match-found.branch [
      | in-Some+in_ok-push-2 w ↦ rw (w.whole-is, w.in-Some.is) w.in_ok-push-2.ensures.items
      | in_default w ↦ rw (w.whole-is, w.in_default.is) refl
    ] in
    numbers_step c.args.table.now c.loop-found.found-index _ _ (omega arith) refl
    (c.len.ensures ∙ c.loop-found.whole.ok.0) c.in_ok-push.ensures.items more c.loop-found.invariant
