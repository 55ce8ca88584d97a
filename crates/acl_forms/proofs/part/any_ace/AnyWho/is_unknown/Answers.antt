use Rattle.std.proofs.Common.{sym}
use Rattle.acl_forms.proofs.AnyNames.{known_whom}
use Rattle.acl_forms.proofs.part.any_ace.AnyWho.is_unknown.Goals as goal

pub returns-in-Known : goal.returns-in-Known
returns-in-Known c = rw c.in-Known.is (sym (known_whom c.in-Known.field-0))
