use Rattle.std.proofs.Common.{◌∙◌, arith, refl, sym}
use Rattle.std.proofs.lemmas.Bool.{true≢false}
use Rattle.acl_to_posix.proofs.columns.TagColumns.{key_added, key_kept, lacks, length_more, still_first, there}
use Rattle.acl_to_posix.proofs.tag_column.column.Goals.{then-has+then-not-has_tag+in_ok-push, else-has, else-has-via-then-has+else-not-has_tag, else-has-via-else-has}
use Rattle.acl_to_posix.proofs.tag_column.column.Goals as goal

pub loop-ace-preserved : goal.loop-ace-preserved
loop-ace-preserved c = let (before, first, few) = c.loop-ace.invariant in elim c.if-has.branch [
  | then-has+then-not-has_tag+in_ok-push w ↦ rw w.keys-is (
    λ test. key_added test c.loop-ace.keys.items w.push.new.self.items _ c.args.aces.now c.loop-ace.ace-index
        c.args.right.bit c.ace-item.result _ c.loop-ace-test.true c.ace-item.is (sym c.has.ensures ∙ w.if-has.true)
        w.in_ok-push.ensures.items refl refl (before test),
    still_first c.loop-ace.keys.items w.push.new.self.items _ first
        (lacks _ c.loop-ace.keys.items _ _ w.deref.ensures.value w.has_tag.ensures w.if-not-has_tag.true)
        w.in_ok-push.ensures.items,
    length_more c.loop-ace.keys.items w.push.new.self.items _ c.loop-ace.ace-index w.in_ok-push.ensures.items few,
  )
  | else-has w ↦ rw w.keys-is (
    λ test. key_kept test c.loop-ace.keys.items c.args.aces.now c.loop-ace.ace-index c.args.right.bit
        c.ace-item.result _ c.loop-ace-test.true c.ace-item.is (elim w.else-has.branch [
          | else-has-via-then-has+else-not-has_tag v ↦
              λ h. there _ c.loop-ace.keys.items _ _ v.deref.ensures.value v.has_tag.ensures
              v.if-not-has_tag.false
          | else-has-via-else-has v ↦ λ h. absurd (true≢false (sym h ∙ (sym c.has.ensures ∙ v.if-has.false)))
        ]) (before test),
    first,
    omega (arith, few),
  )
]
