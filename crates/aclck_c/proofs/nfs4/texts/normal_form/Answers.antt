use Rattle.std.proofs.Common.{arith}
use Rattle.acl_nfs4.proofs.Exports.{code_profile}
use Rattle.acl_normal.proofs.unique.Spelled.{form_of}
use Rattle.aclck_c.proofs.nfs4.texts.normal_form.Goals as goal

pub returns-clause-ok : goal.returns-clause-ok
returns-clause-ok c =
    let read = c.in_ok-list.ensures.found in
    let form = c.in_ok-form.ensures.form in
    let is = form_of _ _ _ (code_profile c.args.profile (omega arith)) read.accepted form in
    record {
      source = c.in_ok-list.list;
      form = c.in_ok-form.form;
      read = read;
      is_form = form;
      spelled = record { accepted = is.accepted; spelled = c.in_ok-to_bytes.ensures };
    }
