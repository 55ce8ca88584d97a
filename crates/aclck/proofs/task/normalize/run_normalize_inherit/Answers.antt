use Rattle.std.proofs.Common.{arith, rules}
use Rattle.acl_perm.specs.Profile.{profile_of}
use Rattle.aclck.specs.commands.Normalize.{NormalizeInheritAnswer}
use Rattle.aclck.proofs.PathLemmas.{written_forms}
use Rattle.aclck.proofs.WritingLemmas.{written_after_reading}
use Rattle.aclck.proofs.task.normalize.run_normalize_inherit.Goals as goal

pub returns : goal.returns
returns g c =
    let read = c.in_ok-read_list.ensures in
    written_after_reading (NormalizeInheritAnswer (profile_of c.args.profile)) c.write_forms.result
    c.write_forms.ensures read.found
    (λ input spelled. written_forms c.args.profile (omega arith) _ c.in_ok-forms.forms input spelled (search rules))
    read.bound read.whole read.reads
