use Rattle.std.proofs.Common.{arith}
use Rattle.acl_perm.specs.Profile.{profile_of}
use Rattle.acl_nfs4.proofs.Exports.{code_profile}
use Rattle.acl_normal.proofs.unique.Spelled.{form_of}
use Rattle.acl_normal.proofs.normal_form.normal_bytes_with.Goals as goal

pub returns-in-Ok-clause-ok : goal.returns-in-Ok-clause-ok
returns-in-Ok-clause-ok c =
    let p = profile_of c.args.profile in
    let read = c.in_ok-view.ensures.found in
    let form = c.in-Ok.ensures in
    record {
      source = c.in_ok-view.view;
      form = form.0;
      read = read;
      is_form = form.1;
      spelled = record {
        accepted =
            (form_of p c.in_ok-view.view form.0 (code_profile c.args.profile (omega arith)) read.accepted
            form.1).accepted;
        spelled = form.2;
      };
    }
