use Rattle.std.proofs.Common.{rules, sym, ◌∙◌}
use Rattle.std.proofs.lemmas.Iterator.{YieldsList-from_slice}
use Rattle.std.proofs.lemmas.Iterator.Search.{any_from_yields_List}
use Rattle.acl_nt.specs.NtCheck.{same_sid}
use Rattle.acl_nt.specs.Sid.{sid}
use Rattle.acl_nt.proofs.Mapped.{any_mapped}
use Rattle.acl_nt.proofs.mapping.is_user.Goals as goal

pub returns : goal.returns
returns c =
    any_from_yields_List (λ user. same_sid (sid c.args.sid.now) (sid user)) _ _ _ c.any.ensures.ran
    (YieldsList-from_slice c.args.users.now cc) (λ x b q k. search rules)
    ∙ sym (any_mapped (same_sid (sid c.args.sid.now)) sid c.args.users.now)
