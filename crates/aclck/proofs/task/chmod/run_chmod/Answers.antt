use Rattle.std.proofs.Common.{ap}
use Rattle.acl_posix.specs.Texts.{canonical_text}
use Rattle.acl_posix.specs.Programs.{chmod_text}
use Rattle.aclck.proofs.WritingLemmas.{written_file}
use Rattle.aclck.proofs.task.chmod.run_chmod.Goals as goal

pub returns : goal.returns
returns g c =
    written_file (chmod_text c.args.mode.bits) c.in_ok-file.file c.write_file.result c.write_file.ensures
    c.in_ok-file.ensures.found (ap (λ acl. canonical_text acl c.in_ok-file.file.default) c.chmod.ensures)
    c.in_ok-file.ensures.whole c.in_ok-file.ensures.reads
