use Rattle.std.proofs.Common.{arith, rules}
use Rattle.std.proofs.lemmas.Grind.{common_steps}
use Rattle.acl_perm.specs.Profile.{profile_of}
use Rattle.aclck.specs.commands.CheckNfs.{CheckNfsAnswer, object_names, requester_names}
use Rattle.aclck.proofs.WritingLemmas.{written_after_reading}
use Rattle.aclck.proofs.task.check_nfs.run_check_nfs.Goals as goal

pub returns : goal.returns
returns g c =
    let read = c.in_ok-list.ensures in
    let values = c.args in
    written_after_reading (CheckNfsAnswer (record {
      object = object_names values.object.now;
      requester = requester_names values.requester.now;
      mask = values.mask.bits;
      profile = profile_of values.profile;
    })) c.write_answer.result c.write_answer.ensures
    read.found (λ input spelled. (
      record {
        list = c.in_ok-list.list;
        spelled = spelled;
        answer = first_of (search rules, grind (arith, common_steps));
      },
      c.decision_line.ensures,
    )) read.bound read.whole read.reads
