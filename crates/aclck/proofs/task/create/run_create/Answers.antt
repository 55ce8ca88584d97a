use Rattle.std.proofs.Common.{◌∙◌, ap}
use Rattle.acl_posix.specs.Create.{created_access, created_default}
use Rattle.acl_posix.specs.Texts.{canonical_text}
use Rattle.acl_posix.specs.Programs.{created_text}
use Rattle.aclck.proofs.WritingLemmas.{written_file}
use Rattle.aclck.proofs.task.create.run_create.Goals as goal

pub returns : goal.returns
returns g c =
    let values = c.args in
    written_file (created_text values.mode.bits values.umask.bits values.dir) c.in_ok-parent.parent c.write_file.result
    c.write_file.ensures c.in_ok-parent.ensures.found
    ((λ t. canonical_text (c.in_ok-file.ensures.access t) (c.in_ok-file.ensures.default t))
    ∙ ap (λ default. canonical_text (created_access default values.mode.bits values.umask.bits)
    (created_default default values.dir)) c.as_ref-default.ensures.value)
    c.in_ok-parent.ensures.whole c.in_ok-parent.ensures.reads
