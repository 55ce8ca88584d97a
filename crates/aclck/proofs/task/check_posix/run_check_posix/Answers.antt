use Rattle.std.proofs.Common.{◌∙◌}
use Rattle.acl_posix.specs.Check.{ids}
use Rattle.aclck.specs.commands.CheckPosix.{CheckPosixAnswer}
use Rattle.aclck.proofs.WritingLemmas.{written_answer}
use Rattle.aclck.proofs.task.check_posix.run_check_posix.Goals as goal

pub returns : goal.returns
returns g c =
    let values = c.args in
    written_answer (CheckPosixAnswer (record {
      object = record { user = values.owner.value; group = values.group.value };
      requester = record { user = values.user.value; groups = ids values.groups.now };
      want = values.want.bits;
      names = values.names.now;
    })) c.write_answer.result c.write_answer.ensures
    c.in_ok-file.ensures.found (λ input reads. (
      record {
        file = c.in_ok-file.file;
        read = reads;
        answer = c.of-outcome.ensures ∙ c.check-granted.ensures;
      },
      c.decision_line.ensures,
    )) c.in_ok-file.ensures.whole c.in_ok-file.ensures.reads
