use Rattle.std.proofs.Common.{ap, sym, ◌∙◌}
use Rattle.acl_change.specs.Resolved.{first_nameless}
use Rattle.acl_eval.specs.Situation.{owner_of, owning_group_of}
use Rattle.acl_change.proofs.ResolvedLists.{resolved_accepted}
use Rattle.acl_change.proofs.resolving.resolved.Goals as goal

pub with_names-requires : goal.with_names-requires
with_names-requires c =
    let o = owner_of c.args.object.now in
    let g = owning_group_of c.args.object.now in
    resolved_accepted o g c.args.list.now c.aces-2.result c.aces-2.ensures.same
    (ap (first_nameless o g) (sym c.aces.ensures.same) ∙ sym c.first_nameless.ensures ∙ c.in_default.is)
    c.aces.ensures.accepted
