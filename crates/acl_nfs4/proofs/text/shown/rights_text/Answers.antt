use Rattle.acl_nfs4.proofs.Common.{refl}
use Rattle.acl_nfs4.proofs.text.shown.rights_text.Goals as goal

pub returns : goal.returns
returns c = rw (c.add_set.ensures.text, c.new-line.ensures, c.bits.ensures.value) refl
