use Rattle.std.proofs.Common.{rules, sym, ◌∙◌}
use Rattle.std.specs.Prelude.{◌&&◌}
use Rattle.std.proofs.lemmas.Iterator.{YieldsList-from_slice}
use Rattle.std.proofs.lemmas.Iterator.Search.{any_from_yields_List}
use Rattle.acl_nt.specs.Descriptor.{nt_ace}
use Rattle.acl_nt.specs.NtCheck.{is_for_object, owner_rights, same_sid}
use Rattle.acl_nt.proofs.Mapped.{any_mapped}
use Rattle.acl_nt.proofs.mapping.has_owner_ace.Goals as goal

pub returns : goal.returns
returns c =
    any_from_yields_List (λ a. is_for_object (nt_ace a) && same_sid owner_rights (nt_ace a).sid) _ _ _
    c.any.ensures.ran (YieldsList-from_slice c.args.aces.now cc) (λ x b q k. search rules)
    ∙ sym (any_mapped (λ a. is_for_object a && same_sid owner_rights a.sid) nt_ace c.args.aces.now)
