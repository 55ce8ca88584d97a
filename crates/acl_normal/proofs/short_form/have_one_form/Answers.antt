use Rattle.acl_normal.proofs.Common.{aces_in, all_rights, ap, arith, emitted_aces, equivalence, false≢true, SameGrants, subst, sym, ◌∙◌}
use Rattle.acl_normal.specs.internal.Counts.{rights_together}
use Rattle.acl_normal.proofs.reduce.RightCounts.{as_many_rights}
use Rattle.acl_normal.proofs.short_form.have_one_form.Goals as goal

pub returns-then-count_rights : goal.returns-then-count_rights
returns-then-count_rights c = (
  λ no. absurd (false≢true no),
  λ same.
      let here = c.in_ok-needed in
      let there = c.in_ok-other_needed in
      absurd (c.if-count_rights.true
      (c.count_rights.ensures ∙ ap rights_together c.deref.ensures.value
      ∙ as_many_rights c.args.list.now c.args.other.now here.needed.masks.items there.other_needed.masks.items
      (omega (arith, here.ensures.masks, here.needed.masks.ok))
      (omega (arith, there.ensures.masks, there.other_needed.masks.ok))
      here.ensures.reduced there.ensures.reduced same
      ∙ sym (c.count_rights-2.ensures ∙ ap rights_together c.deref-2.ensures.value))),
)

pub returns : goal.returns
returns c =
    let list = aces_in c.args.list.now in
    let other = aces_in c.args.other.now in
    let form = emitted_aces c.in_ok-form.form.items in
    let other_form = emitted_aces c.in_ok-other_form.other_form.items in
    let here = c.in_ok-form.ensures in
    let there = c.in_ok-other_form.ensures in
    let equal = c.are_equal.ensures in
    let shown = ap emitted_aces c.deref-7.ensures.value in
    let other_shown = ap emitted_aces c.deref-8.ensures.value in
    let is = equivalence all_rights in (
      λ same. is.transitive list form other here.grants
          (is.symmetric other form
          (subst (SameGrants all_rights other) (sym (sym shown ∙ equal.0 same ∙ other_shown)) there.grants)),
      λ same. equal.1
          (shown ∙ here.only other_form there.normal (is.transitive list other other_form same there.grants)
          ∙ sym other_shown),
    )
