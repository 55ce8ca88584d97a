use Rattle.std.proofs.Common.{arith}
use Rattle.acl_perm.specs.Profile.{profile_of}
use Rattle.aclck.specs.commands.Normalize.{NormalizeAnswer}
use Rattle.aclck.proofs.NormalFormLemmas.{written_form}
use Rattle.aclck.proofs.WritingLemmas.{written_after_reading}
use Rattle.aclck.proofs.task.normalize.run_normalize.Goals as goal

pub returns : goal.returns
returns g c =
    let read = c.in_ok-read_list.ensures in
    written_after_reading (NormalizeAnswer (profile_of c.args.profile)) c.write_list_answer.result
    c.write_list_answer.ensures read.found
    (λ input spelled. written_form c.args.profile (omega arith) spelled c.in_ok-form.ensures.form) read.bound read.whole
    read.reads
