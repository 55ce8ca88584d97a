use Rattle.std.proofs.Common.{◌∙◌, ap}
use Rattle.acl_posix.specs.Create.{created_access, created_default}
use Rattle.acl_posix.specs.Texts.{canonical_text}
use Rattle.aclck_c.proofs.posix.texts.created.Goals as goal

pub returns-clause-ok : goal.returns-clause-ok
returns-clause-ok c =
    let creation = c.args.creation.now in
    record {
      file = c.in_ok-parent.parent;
      read = c.in_ok-parent.ensures.ok;
      is = c.in_ok-to_text.ensures
          ∙ (λ t. canonical_text (c.in_ok-file.ensures.access t) (c.in_ok-file.ensures.default t))
          ∙ ap (λ default. canonical_text (created_access default creation.mode.bits creation.umask.bits)
          (created_default default creation.is_directory)) c.as_ref-default.ensures.value;
    }
