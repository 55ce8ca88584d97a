use Rattle.acl_perm.specs.Profile.{profile_of}
use Rattle.aclck.specs.commands.Compare.{CompareAnswer}
use Rattle.aclck.proofs.WritingLemmas.{written_after_reading}
use Rattle.aclck.proofs.task.compare.run_compare.Goals as goal

pub returns : goal.returns
returns g c =
    let read = c.in_ok-lists.ensures in
    let lists = c.in_ok-lists.lists in
    written_after_reading (CompareAnswer (profile_of c.args.profile)) c.write_answer.result c.write_answer.ensures
    read.found (λ input two. record {
      list = lists.first;
      other = lists.second;
      two = two;
      compares = rw c.deref.ensures.value c.in_ok-answer.ensures;
    }) read.bound read.whole read.reads
