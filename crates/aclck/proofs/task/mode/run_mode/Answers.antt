use Rattle.std.proofs.Common.{refl, rules}
use Rattle.acl_perm.specs.Profile.{profile_of}
use Rattle.aclck.specs.commands.ListMode.{ModeAnswer}
use Rattle.aclck.proofs.WritingLemmas.{written_after_reading}
use Rattle.aclck.proofs.task.mode.run_mode.Goals as goal

pub returns : goal.returns
returns g c =
    let read = c.in_ok-read_list.ensures in
    written_after_reading (ModeAnswer (profile_of c.args.profile)) c.write_answer.result c.write_answer.ensures
    read.found
    (λ input spelled. (refl, record { list = _; spelled = spelled; is = search rules }))
    read.bound read.whole read.reads
