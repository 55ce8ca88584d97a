use Rattle.std.proofs.Common.{◌∙◌, ap, refl, subst, sym}
use Rattle.acl_nfs4.specs.Ace.{ace}
use Rattle.acl_ids.specs.Ids.{HaveIds}
use Rattle.acl_to_posix.specs.internal.ShapeBody.{principal_tag}
use Rattle.acl_to_posix.proofs.columns.TagColumns.{few_less, few_more, one_passed, one_tagged, tagged_end}
use Rattle.acl_to_posix.proofs.tag_column.tagged_aces.Goals as goal

pub loop-ace-preserved-in-Continue-1 : goal.loop-ace-preserved-in-Continue-1
loop-ace-preserved-in-Continue-1 c =
    let names = c.args.names.now in
    let (next, finite, before, known, few) = c.loop-ace.invariant in
    let ids = subst (HaveIds names) c.in-Some.ensures.steps.0 known in (
      tt,
      tt,
      λ bit object requester asked. one_tagged names c.loop-ace.aces.items c.push.new.self.items _ (ace c.in-Some.ace)
          c.loop-ace.ace-iterator c.next.new.self bit object requester _ c.in-Some.ensures.steps.0
          (sym c.takes_part.ensures ∙ c.if-takes_part.true) ids.0
          (ap (principal_tag names) (sym c.principal.ensures) ∙ sym c.in-Some-tag_of_principal.ensures) refl refl
          c.in_ok-push.ensures.items asked (before bit object requester asked),
      ids.1,
      few_more c.loop-ace.aces.items c.push.new.self.items _ c.loop-ace.ace-iterator c.next.new.self
          (ace c.in-Some.ace) _ c.in-Some.ensures.steps.0 c.in_ok-push.ensures.items few,
    )

pub loop-ace-preserved : goal.loop-ace-preserved
loop-ace-preserved c =
    let names = c.args.names.now in
    let (next, finite, before, known, few) = c.loop-ace.invariant in
    let ids = subst (HaveIds names) c.in-Some.ensures.steps.0 known in (
      tt,
      tt,
      λ bit object requester asked. one_passed names c.loop-ace.aces.items (ace c.in-Some.ace)
          c.loop-ace.ace-iterator c.next.new.self bit object requester _ c.in-Some.ensures.steps.0
          (sym c.takes_part.ensures ∙ c.if-takes_part.false) (before bit object requester asked),
      ids.1,
      few_less c.loop-ace.aces.items c.loop-ace.ace-iterator c.next.new.self (ace c.in-Some.ace) _
          c.in-Some.ensures.steps.0 few,
    )

pub returns-clause-decides : goal.returns-clause-decides
returns-clause-decides c = let (next, finite, before, known, few) = c.loop-ace.invariant in
    λ bit object requester asked. tagged_end c.args.names.now c.loop-ace.aces.items c.loop-ace.ace-iterator bit object
    requester _ c.in-None.ensures.steps.0.0 (before bit object requester asked)
