use Rattle.std.proofs.Common.{◌∙◌, ap}
use Rattle.acl_posix.specs.Texts.{canonical_text}
use Rattle.aclck_c.proofs.posix.texts.with_mode.Goals as goal

pub returns-clause-ok : goal.returns-clause-ok
returns-clause-ok c = record {
  file = c.in_ok-file.file;
  read = c.in_ok-file.ensures.ok;
  is = c.in_ok-to_text.ensures ∙ ap (λ acl. canonical_text acl c.in_ok-file.file.default) c.chmod.ensures;
}
