use Rattle.std.proofs.Common.{refl, rules}
use Rattle.acl_perm.specs.Profile.{profile_of}
use Rattle.aclck.specs.commands.RightTable.{TableAnswer}
use Rattle.aclck.proofs.WritingLemmas.{written_after_reading}
use Rattle.aclck.proofs.task.table.run_table.Goals as goal

pub returns : goal.returns
returns g c =
    let read = c.in_ok-read_list.ensures in
    written_after_reading (TableAnswer (record { bit = c.args.bit.bits; profile = profile_of c.args.profile }))
    c.write_answer.result c.write_answer.ensures read.found
    (λ input spelled. (refl, search rules))
    read.bound read.whole read.reads
