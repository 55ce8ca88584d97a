use Rattle.std.proofs.Common.{◌≡◌, Bool, true, false, eqb, ap, refl, ◌∙◌}
use Rattle.std.specs.Prelude.{bit_and, not}
use Rattle.acl_perm.proofs.Sets.{inherit_only_test}
use Rattle.acl_nt.proofs.ace.is_for_object.Goals as goal

twice : (t : Bool) → t ≡ not (not t)
twice true = refl
twice false = refl

pub returns : goal.returns
returns c =
    twice (eqb (bit_and c.args.ace.now.flags 8) 0) ∙ ap not (inherit_only_test c.args.ace.now.flags)
