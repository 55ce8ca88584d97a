use Rattle.acl_forms.proofs.PosixWrites.{few}
use Rattle.acl_forms.proofs.posix_text.writer.write_posix_text.Goals as goal

pub put_text-requires-clause-few : goal.put_text-requires-clause-few
put_text-requires-clause-few g c =
    few c.args.acl.now c.entries.result.now c.entries.ensures.within c.entries.ensures.entries
