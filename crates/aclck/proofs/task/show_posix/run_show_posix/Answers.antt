use Rattle.std.proofs.Common.{refl}
use Rattle.acl_posix.specs.Programs.{file_text}
use Rattle.aclck.proofs.WritingLemmas.{written_file}
use Rattle.aclck.proofs.task.show_posix.run_show_posix.Goals as goal

pub returns : goal.returns
returns g c =
    written_file (file_text c.args.form) c.in_ok-file.file c.write_file.result c.write_file.ensures
    c.in_ok-file.ensures.found refl c.in_ok-file.ensures.whole c.in_ok-file.ensures.reads
