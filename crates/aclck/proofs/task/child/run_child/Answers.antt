use Rattle.std.proofs.Common.{ap, refl}
use Rattle.acl_nfs4.specs.Spelling.{spelling}
use Rattle.acl_perm.specs.Profile.{profile_of}
use Rattle.aclck.specs.commands.Child.{ChildAnswer}
use Rattle.aclck.proofs.WritingLemmas.{written_after_reading}
use Rattle.aclck.proofs.task.child.run_child.Goals as goal

pub returns : goal.returns
returns g c =
    let read = c.in_ok-read_list.ensures in
    written_after_reading (ChildAnswer (record { created = c.args.kind; profile = profile_of c.args.profile }))
    c.write_list_answer.result c.write_list_answer.ensures read.found
    (λ input spelled. (refl, record { list = _; spelled = spelled; is = ap spelling c.in_ok-list.ensures.ok }))
    read.bound read.whole read.reads
