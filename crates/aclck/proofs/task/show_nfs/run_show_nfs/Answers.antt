use Rattle.std.proofs.Common.{refl, rules}
use Rattle.acl_perm.specs.Profile.{profile_of}
use Rattle.aclck.specs.commands.ShowNfs.{ShowNfsAnswer}
use Rattle.aclck.proofs.WritingLemmas.{written_after_reading}
use Rattle.aclck.proofs.task.show_nfs.run_show_nfs.Goals as goal

pub returns : goal.returns
returns g c =
    let read = c.in_ok-read_list.ensures in
    written_after_reading (ShowNfsAnswer (profile_of c.args.profile)) c.write_answer.result c.write_answer.ensures
    read.found
    (λ input spelled. (refl, record { list = _; spelled = spelled; is = search rules }))
    read.bound read.whole read.reads
