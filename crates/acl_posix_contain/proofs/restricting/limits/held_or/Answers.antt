use Rattle.std.proofs.Common.{ap, sym, ℕ, ◌∙◌}
use Rattle.std.specs.Prelude.{option_map}
use Rattle.acl_perm.specs.Bits.{has_bit}
use Rattle.acl_perm.specs.declared.perm.Perm.{Perm}
use Rattle.acl_posix.specs.Tag.{tag_of}
use Rattle.acl_posix_contain.proofs.Bits.{held_first}
use Rattle.acl_posix_contain.proofs.restricting.limits.held_or.Goals as goal

pub returns-in-Some : goal.returns-in-Some
returns-in-Some c = λ bit lt.
    ap (λ (n : ℕ). has_bit n bit) c.effective.ensures
    ∙ held_first c.args.acl.now (tag_of c.args.tag) c.in-Some.perm.bits bit _
    (sym c.get.ensures ∙ ap (option_map (λ (perm : Perm). perm.bits)) c.in-Some.is)
