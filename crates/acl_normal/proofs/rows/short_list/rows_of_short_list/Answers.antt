use Rattle.acl_normal.proofs.Common.{[], Principal, aces_in, ap, arith, map, map-append, principal, sym, take, take_all, ◌++◌, ◌∙◌, ◌∷◌}
use Rattle.acl_normal.specs.internal.rows.LowerCounts.{count_below, headed_names}
use Rattle.acl_normal.proofs.rows.ShortListRows.{counted_numbers, names_more}
use Rattle.acl_normal.proofs.rows.short_list.rows_of_short_list.Goals as goal

pub loop-principal-preserved : goal.loop-principal-preserved
loop-principal-preserved c =
    let all = c.as_slice-principals.result.now in
    let i = c.loop-principal.principal-index in
    let h = c.principal-item.result in
    c.in_ok-push.ensures.items
    ∙ ap (λ v. v ++ c.count_below.result ∷ []) c.loop-principal.invariant
    ∙ ap (λ n. map (λ p. count_below p (headed_names all)) (headed_names (take i all)) ++ n ∷ [])
    c.count_below.ensures
    ∙ sym (map-append (λ (p : Principal). count_below p (headed_names all)) (headed_names (take i all))
    (principal h.principal ∷ []))
    ∙ ap (map (λ (p : Principal). count_below p (headed_names all)))
    (sym (names_more all i h (omega arith) c.principal-item.is))

pub returns : goal.returns
returns c =
    counted_numbers (aces_in c.args.aces.now) (headed_names c.as_slice-principals.result.now)
    c.loop-principal.rows.items
    (ap headed_names c.as_slice-principals.ensures.value ∙ c.in_ok-named.ensures)
    (c.loop-principal.invariant
    ∙ ap (λ v. map (λ p. count_below p (headed_names c.as_slice-principals.result.now)) (headed_names v))
    (take_all c.loop-principal.principal-index c.as_slice-principals.result.now (omega arith)))
