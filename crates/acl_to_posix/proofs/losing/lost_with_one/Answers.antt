use Rattle.std.proofs.Common.{◌≡◌, ◌∙◌, sym, true}
use Rattle.std.proofs.lemmas.Bool.{true≢false}
use Rattle.acl_posix.specs.Tag.{tag_of}
use Rattle.acl_to_posix.specs.internal.LossBody.{IsKeptWith, are_together, is_second, search_of}
use Rattle.acl_to_posix.proofs.losses.LossOfLists.{kept_with}
use Rattle.acl_to_posix.proofs.losses.LossTags.{one_more_left}
use Rattle.acl_to_posix.proofs.losing.lost_with_one.Goals.{then-is_second+then-are_together+in_ok-chosen+else-is_lost, else-is_second, else-is_second-via-then-is_second+else-are_together, else-is_second-via-else-is_second}
use Rattle.acl_to_posix.proofs.losing.lost_with_one.Goals as goal

pub loop-two-preserved : goal.loop-two-preserved
loop-two-preserved c =
    let s = search_of c.args.wanted.now c.args.acl.now c.args.unused in
    let one = c.args.one.now in
    let denied = c.args.denied.now in
    λ rest. c.loop-two.invariant
    (one_more_left (λ two. is_second two denied ≡ true → are_together one two ≡ true
    → IsKeptWith s (tag_of one.tag) (tag_of two.tag) (tag_of denied.tag)) c.args.seconds.now c.loop-two.two-index
    c.two-item.result c.loop-two-test.true c.two-item.is (elim c.if-is_second.branch [
      | then-is_second+then-are_together+in_ok-chosen+else-is_lost w ↦ λ second together.
          kept_with s (tag_of one.tag) (tag_of c.two-item.result.tag) (tag_of denied.tag) w.in_ok-chosen.chosen
          w.is_lost.result w.in_ok-chosen.ensures.object w.in_ok-chosen.ensures.requester w.is_lost.ensures
          w.if-is_lost.false
      | else-is_second w ↦ elim w.else-is_second.branch [
        | else-is_second-via-then-is_second+else-are_together v ↦ λ second together.
            absurd (true≢false (sym together ∙ (sym v.are_together.ensures ∙ v.if-are_together.false)))
        | else-is_second-via-else-is_second v ↦ λ second together.
            absurd (true≢false (sym second ∙ (sym c.is_second.ensures ∙ v.if-is_second.false)))
      ]
    ]) rest)
