use Rattle.std.proofs.Common.{Some, ◌∙◌, sym, ap, arith}
use Rattle.acl_perm.specs.Principal.{principal}
use Rattle.acl_normal.proofs.rows.FirstPlaces.{first_by_none, first_by_place, first_in}
use Rattle.acl_normal.proofs.rows.Rows.{row_below, unnamed_first}
use Rattle.acl_normal.proofs.rows.remaining.Remaining.source.Goals as goal

pub returns-in_err-row : goal.returns-in_err-row
returns-in_err-row c =
    c.from_residual.ensures
    ∙ sym (unnamed_first c.args.right.bit (principal c.args.p) c.args.self.now c.in_err-row.ensures.missing)

pub place_in-requires : goal.place_in-requires
place_in-requires c =
    let found = c.in_ok-row.ensures.found in
    omega (arith, found.is, row_below (principal c.args.p) c.args.self.now found.named)

pub kind_at-requires : goal.kind_at-requires
kind_at-requires c =
    let first =
    first_by_place c.args.right.bit (principal c.args.p) c.args.self.now c.in_ok-place.place
    (sym (c.in_ok-place.ensures (principal c.args.p) c.in_ok-row.ensures.found)) in
    first_in c.args.right.bit (principal c.args.p) c.args.self.now _ first

pub returns-in_err-place : goal.returns-in_err-place
returns-in_err-place c =
    c.from_residual-in_err-place.ensures
    ∙ sym (first_by_none c.args.right.bit (principal c.args.p) c.args.self.now
    (sym (c.in_err-place.ensures (principal c.args.p) c.in_ok-row.ensures.found)))

pub returns : goal.returns
returns c =
    let first =
    first_by_place c.args.right.bit (principal c.args.p) c.args.self.now c.in_ok-place.place
    (sym (c.in_ok-place.ensures (principal c.args.p) c.in_ok-row.ensures.found)) in
    ap (λ k. Some (k, c.in_ok-place.place)) c.kind_at.ensures ∙ sym first
