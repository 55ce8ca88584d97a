use Rattle.acl_posix.proofs.Common.{ap, nat_eq, ◌&&◌, ◌∙◌}
use Rattle.acl_posix.specs.contracts.tag.TagOrd.TheImpl.Laws as laws
use Rattle.acl_posix.proofs.sorted.Equality.{same_lists}
use Rattle.acl_posix.proofs.acl.are_same.Goals as goal

pub returns : goal.returns
returns c =
    c.eq.ensures ∙ same_lists _ (λ a b. ap (λ e. e && nat_eq a.perm.bits b.perm.bits) (laws.matches_eq-law a.tag b.tag))
    c.args.one.now c.args.other.now
