use Rattle.acl_posix.specs.Check.{ids}
use Rattle.acl_posix.specs.Texts.{IsAcl}
use Rattle.acl_eval.specs.BridgeLaws.{IsAsked}
use Rattle.acl_eval.proofs.BridgeLaws.{All-ids, grants_singles, keeps_grants}
use Rattle.acl_eval.proofs.laws.bridge_and_check.Goals as goal

pub returns : goal.returns
returns c =
    let access : IsAcl c.args.acl.now =
    record { valid = c.entries.ensures.valid; within = c.entries.ensures.within } in
    let asked : IsAsked (record { user = c.args.owner.value; group = c.args.group.value })
    (record { user = c.args.user.value; groups = ids c.args.groups.now }) = record {
      owner = c.args.owner.within;
      owning_group = c.args.group.within;
      asker = c.args.user.within;
      groups = All-ids c.args.groups.now;
    } in
    record {
      single = λ one. grants_singles c.args.acl.now _ _ c.args.want.bits access asked one;
      together = λ granted. keeps_grants c.args.acl.now _ _ c.args.want.bits access asked c.args.want.within granted;
    }
