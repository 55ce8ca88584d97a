use Rattle.acl_eval.proofs.GrantedRights.{grants_by_names, kinds_by_names}
use Rattle.acl_eval.proofs.laws.groups_are_a_set.Goals as goal

pub returns : goal.returns
returns c = record { requests = grants_by_names; kinds = kinds_by_names }
