use Rattle.acl_normal.proofs.Common.{ace, ap, column, first_at, is_free, principal, principal_of, Some, sym, ◌∙◌, ◌≡◌, ◌^◌, ◌↔◌, IsTrue}
use Rattle.acl_normal.specs.Left.{HasFree}
use Rattle.acl_normal.proofs.plain.FreeInRows.{kind_other, other_not_free, own_free}
use Rattle.acl_normal.proofs.rows.FirstAces.{right_there}
use Rattle.acl_normal.proofs.rows.FreeByPlaces.{none_free}
use Rattle.acl_normal.proofs.unique.Names.{kind_eq_same}
use Rattle.acl_normal.proofs.plain.by_rows.has_free.Goals as goal

pub returns-in-None : goal.returns-in-None
returns-in-None c =
    let xs = c.args.rows.now in
    let b = c.args.right.bit in
    let p = principal_of (ace c.args.item.now) in
    sym (none_free b p c.args.item.now.kind xs
    (ap (λ q. first_at b q xs) (sym c.principal-whom.ensures)
    ∙ ap (first_at b (principal c.principal-whom.result)) (sym c.rows.view_is) ∙ sym c.source.ensures ∙ c.in-None.is))

pub returns-then-is_same_kind : goal.returns-then-is_same_kind
returns-then-is_same_kind c =
    let xs = c.args.rows.now in
    let b = c.args.right.bit in
    let p = principal_of (ace c.args.item.now) in
    let first : first_at b p xs ≡ Some (c.in-Some.kind, c.in-Some._place) =
    ap (λ q. first_at b q xs) (sym c.principal-whom.ensures)
    ∙ ap (first_at b (principal c.principal-whom.result)) (sym c.rows.view_is) ∙ sym c.source.ensures ∙ c.in-Some.is in
    let bits = c.alone.ensures (right_there b p xs _ first (c.requires.rights b)) in
    let is : IsTrue c.is_free.result ↔ HasFree xs p (2 ^ b) =
    rw (← bits, ← c.principal-whom.ensures) c.is_free.ensures in
    own_free xs b p c.in-Some.kind c.in-Some._place c.requires first c.is_free.result is
    ∙ ap (λ k. is_free (column xs b) (p, k)) (kind_eq_same c.in-Some.kind c.args.item.now.kind
    (sym c.is_same_kind.ensures ∙ c.if-is_same_kind.true))

pub returns-else-is_same_kind : goal.returns-else-is_same_kind
returns-else-is_same_kind c =
    let xs = c.args.rows.now in
    let b = c.args.right.bit in
    let p = principal_of (ace c.args.item.now) in
    let first : first_at b p xs ≡ Some (c.in-Some.kind, c.in-Some._place) =
    ap (λ q. first_at b q xs) (sym c.principal-whom.ensures)
    ∙ ap (first_at b (principal c.principal-whom.result)) (sym c.rows.view_is) ∙ sym c.source.ensures ∙ c.in-Some.is in
    sym (other_not_free xs b p c.in-Some.kind c.in-Some._place c.requires first c.args.item.now.kind
    (kind_other c.in-Some.kind c.args.item.now.kind (sym c.is_same_kind.ensures ∙ c.if-is_same_kind.false)))
