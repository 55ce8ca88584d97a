use Rattle.acl_normal.proofs.Common.{ap, arith, is_at, is_users, length, list_any, nat_cmp, slice_index_or, ◌<◌, ◌∙◌, get_or_default}
use Rattle.acl_normal.specs.internal.rows.Waiting.{NoPlaces}
use Rattle.acl_normal.proofs.rows.Waits.{waits_nowhere}
use Rattle.acl_normal.proofs.merged.MergedRows.waiting_at.Goals as goal
use Rattle.acl_normal.proofs.rows.Slots.{slot_below}

pub returns-clause-none : goal.returns-clause-none
returns-clause-none c = λ none i.
    let sets = c.self.inside.waiting in
    let kind = c.args.kind in
    let users = is_users c.args.class in
    let bit = c.args.right.bit in
    let right = c.self.invariant in
    let within : c.slot.result < length sets.items =
    omega (arith, c.slot.ensures, slot_below kind users bit c.args.right.within, right.sets, sets.ok) in
    ap (λ v. list_any (is_at (nat_cmp i)) v.keys)
    (c.index.ensures ∙ get_or_default sets.items c.slot.result _ NoPlaces within
    ∙ ap (λ v. slice_index_or sets.items v NoPlaces) c.slot.ensures)
    ∙ right.waiting kind users bit i c.args.right.within
    ∙ waits_nowhere kind users bit c.self.inside.rest i (right.rights bit none)
