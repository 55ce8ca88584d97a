use Rattle.acl_forms.proofs.AnyNames.{never_special}
use Rattle.acl_forms.proofs.part.any_ace.bytes_of.Goals as goal

pub returns-in-Special : goal.returns-in-Special
returns-in-Special c =
    absurd (never_special c.args.who c.in-Special.field-0 c.in-Special.is c.requires.named c.requires.known)
