use Rattle.std.proofs.Common.{arith, rules}
use Rattle.acl_perm.specs.Profile.{profile_of}
use Rattle.acl_nfs4.proofs.Exports.{code_profile}
use Rattle.aclck_c.proofs.nfs4.texts.five_forms.Goals as goal

pub returns-clause-ok : goal.returns-clause-ok
returns-clause-ok c =
    let p = profile_of c.args.profile in
    let read = c.in_ok-list.ensures.ok in
    let made = c.in_ok-forms.ensures in
    record {
      source = c.in_ok-list.list;
      forms = c.in_ok-forms.forms;
      read = read;
      are_forms = search rules;
      accepted = made.accepted p (code_profile c.args.profile (omega arith)) read.accepted;
      spelled = c.in_ok-spelled_forms.ensures;
    }
