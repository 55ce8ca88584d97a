use Rattle.std.proofs.Common.{ap}
use Rattle.acl_posix.specs.Texts.{canonical_text}
use Rattle.acl_posix.specs.Programs.{masked_text}
use Rattle.aclck.proofs.WritingLemmas.{written_file}
use Rattle.aclck.proofs.task.calc_mask.run_calc_mask.Goals as goal

pub returns : goal.returns
returns g c =
    written_file masked_text c.in_ok-file.file c.write_file.result c.write_file.ensures c.in_ok-file.ensures.found
    (ap (λ acl. canonical_text acl c.in_ok-file.file.default) c.in_ok-calc_mask.ensures.ok)
    c.in_ok-file.ensures.whole c.in_ok-file.ensures.reads
