use Rattle.std.proofs.Common.{◌≡◌, ◌^◌, Some}
use Rattle.acl_normal.proofs.Common.{ap, arith, first_at, IsRowOf, principal, subst, sym, take_out, ◌∙◌}
use Rattle.acl_normal.proofs.rows.EmitRight.{emit_right_at}
use Rattle.acl_normal.proofs.rows.FirstPlaces.{first_by_none, first_by_place, first_in}
use Rattle.acl_normal.proofs.rows.Rows.{row_below}
use Rattle.acl_normal.proofs.rows.TakeOut.{take_none}
use Rattle.acl_normal.proofs.merged.MergedRows.emit_bit.Goals as goal
use Rattle.acl_normal.proofs.rows.FirstAces.{right_there}

pub place_in-requires : goal.place_in-requires
place_in-requires c =
    let at_row = subst (IsRowOf c.args.row (principal c.args.p)) (sym c.self.view_is) c.requires in
    omega (arith, at_row.is, row_below (principal c.args.p) c.self.inside.rest at_row.named)

pub kind_at-kind-requires : goal.kind_at-kind-requires
kind_at-kind-requires c =
    let xs = c.self.inside.rest in
    let p = principal c.args.p in
    let at_row = subst (IsRowOf c.args.row p) (sym c.self.view_is) c.requires in
    first_in c.args.right.bit p xs _ (first_by_place c.args.right.bit p xs _ (sym (c.in-Some.ensures p at_row)))

pub invariant_of-self : goal.invariant_of-self
invariant_of-self c =
    let s = c.self.inside in
    let p = principal c.args.p in
    let b = c.args.right.bit in
    let at_row = subst (IsRowOf c.args.row p) (sym c.self.view_is) c.requires in
    let first : first_at b p s.rest ≡ Some (c.kind_at-kind.result, c.in-Some.place) =
    first_by_place b p s.rest _ (sym (c.in-Some.ensures p at_row))
    ∙ ap (λ k. Some (k, c.in-Some.place)) (sym c.kind_at-kind.ensures) in
    emit_right_at s p b _ c.kind_at-kind.result _ c.in-Some.place c.slot-at.result _ c.remove.new.self _ _
    c.self.invariant c.args.right.within first c.of.ensures c.slot-at.ensures c.index_mut-set.ensures.value
    c.remove.ensures.updates.0 c.alone.ensures c.take_out.ensures

pub returns-in-Some : goal.returns-in-Some
returns-in-Some c =
    let xs = c.self.inside.rest in
    let p = principal c.args.p in
    let b = c.args.right.bit in
    let at_row = subst (IsRowOf c.args.row p) (sym c.self.view_is) c.requires in
    let first = first_by_place b p xs _ (sym (c.in-Some.ensures p at_row)) in
    c.take_out.ensures
    ∙ ap (λ v. take_out p v xs) (c.alone.ensures (right_there b p xs _ first (c.self.invariant.rights b)))
    ∙ ap (take_out (principal c.args.p) (2 ^ c.args.right.bit)) c.self.view_is

pub returns-in_default : goal.returns-in_default
returns-in_default c =
    let xs = c.self.inside.rest in
    let p = principal c.args.p in
    let at_row = subst (IsRowOf c.args.row p) (sym c.self.view_is) c.requires in
    sym (subst (λ v. take_out p (2 ^ c.args.right.bit) v ≡ v) c.self.view_is
    (take_none c.args.right.bit p xs (first_by_none c.args.right.bit p xs (sym (c.in_default.ensures p at_row)))))
