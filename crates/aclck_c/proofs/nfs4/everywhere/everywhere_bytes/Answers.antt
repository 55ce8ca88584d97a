use Rattle.std.proofs.Common.{arith}
use Rattle.acl_perm.specs.Profile.{profile_of}
use Rattle.acl_nfs4.proofs.Exports.{code_profile}
use Rattle.aclck_c.proofs.Pairs.{memory_failure}
use Rattle.aclck_c.proofs.Restrictions.{removal_taken}
use Rattle.aclck_c.proofs.nfs4.everywhere.everywhere_bytes.Goals as goal

pub returns-clause-ok : goal.returns-clause-ok
returns-clause-ok c =
    let list = c.in_ok-list.list in
    let kept = c.in_ok-kept.kept in
    let read = c.in_ok-list.ensures.ok in
    let is = c.in_ok-kept.ensures in
    record {
      list = list;
      bound = c.in_ok-limit.limit;
      kept = kept;
      read = record { first_spelled = read; second_spelled = c.in_ok-limit.ensures.ok };
      is_kept = record {
        at_most_list = is.at_most_list;
        greatest = is.greatest;
        most = is.most;
        unchanged = is.unchanged;
      };
      spelled = record {
        accepted = removal_taken (profile_of c.args.profile) list kept (code_profile c.args.profile (omega arith))
            is.removal read.accepted;
        spelled = c.in_ok-to_bytes.ensures;
      };
    }

pub returns-in_err-to_bytes-clause-err : goal.returns-in_err-to_bytes-clause-err
returns-in_err-to_bytes-clause-err c =
    memory_failure (profile_of c.args.profile) c.args.acl.now c.args.bound.now c.in_ok-list.list
    c.from_residual-in_err-to_bytes.result c.from_residual-in_err-to_bytes.ensures.1 c.in_ok-list.ensures.ok
