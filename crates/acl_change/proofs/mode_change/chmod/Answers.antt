use Rattle.std.proofs.Common.{ap, ◌∙◌}
use Rattle.acl_eval.specs.ListMode.{mode_of_list}
use Rattle.acl_change.proofs.ChmodGrants.{mode_after}
use Rattle.acl_change.proofs.mode_change.chmod.Goals as goal

pub returns-clause-mode : goal.returns-clause-mode
returns-clause-mode c = ap mode_of_list c.in_ok-with_mode.ensures
    ∙ mode_after c.args.mode.bits c.args.list.now c.args.mode.within
