use Rattle.std.proofs.Common.{[], subst, sym, ◌++◌, ◌∷◌}
use Rattle.acl_nfs4.specs.Ace.{Ace, ace}
use Rattle.acl_nfs4.specs.Spelling.{IsAccepted}
use Rattle.acl_perm.specs.Profile.{full}
use Rattle.acl_change.specs.Resolved.{resolved_list}
use Rattle.acl_eval.specs.Situation.{owner_of, owning_group_of}
use Rattle.acl_change.proofs.ResolvedLists.{resolved_fits}
use Rattle.acl_change.proofs.resolving.with_names.Goals as goal

pub push_accepted-requires : goal.push_accepted-requires
push_accepted-requires c =
    let o = owner_of c.args.object.now in
    let g = owning_group_of c.args.object.now in
    subst (λ (x : Ace). IsAccepted full (c.loop-ace.list ++ x ∷ [])) (sym c.with_name.ensures)
    (resolved_fits o g c.loop-ace.list c.loop-ace.ace-iterator c.next.new.self (resolved_list o g c.args.aces)
    (ace c.in-Some.ace) c.in-Some.ensures.steps.0 c.loop-ace.invariant.2 c.requires)
