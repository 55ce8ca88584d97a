use Rattle.acl_normal.proofs.Common.{[], ace, aces_in, ap, arith, map, map-append, principal, principal_of, sym, take, ◌++◌, ◌∙◌, ◌∷◌}
use Rattle.acl_normal.specs.declared.rows.heads.HeadedPrincipal.{HeadedPrincipal}
use Rattle.acl_normal.specs.internal.rows.LowerCounts.{headed_names}
use Rattle.acl_normal.proofs.reduce.Passes.{list_of-more}
use Rattle.acl_normal.proofs.rows.short_list.headed_principals.Goals as goal

pub loop-ace-preserved : goal.loop-ace-preserved
loop-ace-preserved c =
    let before = aces_in (take c.loop-ace.ace-index c.args.aces.now) in
    ap headed_names c.in_ok-push.ensures.items
    ∙ map-append (λ (h : HeadedPrincipal). principal h.principal) c.loop-ace.principals.items _
    ∙ ap (λ v. v ++ principal c.new.result.principal ∷ []) c.loop-ace.invariant
    ∙ ap (λ v. map principal_of before ++ v ∷ []) (ap principal c.new.ensures ∙ c.whom.ensures)
    ∙ sym (map-append principal_of before (ace c.ace-item.result ∷ []))
    ∙ ap (map principal_of)
    (sym (list_of-more c.args.aces.now c.ace-item.result c.loop-ace.ace-index (omega arith) c.ace-item.is))
