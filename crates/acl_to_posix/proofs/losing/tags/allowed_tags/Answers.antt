use Rattle.std.proofs.Common.{◌∙◌, sym}
use Rattle.acl_to_posix.specs.internal.ShapeBody.{keys_of}
use Rattle.acl_to_posix.proofs.losses.LossTags.{judged_more, tag_added, tag_passed}
use Rattle.acl_to_posix.proofs.losing.tags.allowed_tags.Goals.{then-is_allowed_in+in_ok-push, else-is_allowed_in}
use Rattle.acl_to_posix.proofs.losing.tags.allowed_tags.Goals as goal

pub loop-key-preserved : goal.loop-key-preserved
loop-key-preserved c = let (judged, tags) = c.loop-key.invariant in elim c.if-is_allowed_in.branch [
  | then-is_allowed_in+in_ok-push w ↦ rw w.tags-is (
    judged_more c.args.wanted.now c.args.acl.now c.loop-key.tags.items w.push.new.self.items w.judged_tag.result
        w.in_ok-push.ensures.items judged w.judged_tag.ensures.judged,
    tag_added (keys_of c.args.keys.now) c.args.keys.now c.loop-key.key-index c.key-item.result c.loop-key.tags.items
        w.push.new.self.items w.judged_tag.result _ c.loop-key-test.true c.key-item.is
        (sym c.is_allowed_in.ensures ∙ w.if-is_allowed_in.true) w.in_ok-push.ensures.items w.judged_tag.ensures.tag
        tags,
  )
  | else-is_allowed_in w ↦ rw w.tags-is (
    judged,
    tag_passed (keys_of c.args.keys.now) c.args.keys.now c.loop-key.key-index c.key-item.result c.loop-key.tags.items _
        c.loop-key-test.true c.key-item.is (sym c.is_allowed_in.ensures ∙ w.if-is_allowed_in.false) tags,
  )
]
