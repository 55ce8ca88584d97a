use Rattle.std.proofs.Common.{refl}
use Rattle.acl_forms.proofs.AnyTexts.{part_fails, part_made}
use Rattle.acl_nfs4.proofs.Exits.{exit_is}
use Rattle.acl_forms.proofs.part.texts.read_text_part.Goals as goal

pub returns-in_err-read : goal.returns-in_err-read
returns-in_err-read c =
    rw (exit_is c.from_residual.result c.from_residual.ensures.1) (part_fails _ _ c.in_err-read.ensures)

pub returns : goal.returns
returns c = part_made _ _ _ c.in_ok-read.ensures refl refl refl
