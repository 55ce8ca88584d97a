use Rattle.std.proofs.Common.{refl}
use Rattle.acl_forms.proofs.AnyTexts.{holds_none}
use Rattle.acl_forms.proofs.part.texts.AnyAceTextTextForm.new_list.Goals as goal

pub returns : goal.returns
returns c = holds_none _ c.new.ensures c.new-2.ensures.items refl refl
