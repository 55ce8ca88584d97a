use Rattle.std.proofs.Common.{◌≡◌, Some, true, length}
use Rattle.std.specs.Prelude.{map}
use Rattle.std.specs.List.{AllByRecursion}
use Rattle.acl_perm.specs.Bits.{has_bit}
use Rattle.acl_perm.specs.declared.kind.Kind.TheVariants.{Allow}
use Rattle.acl_nfs4.specs.Ace.{ace}
use Rattle.acl_eval.specs.Situation.{situation}
use Rattle.acl_decide.specs.Unknown.{GrantsUnder, answer_under}
use Rattle.acl_decide.specs.internal.RequestBody.{ArePassed, all_but}
use Rattle.acl_decide.specs.internal.OutNames.{is_out}
use Rattle.acl_decide.proofs.request_with_unknown.judge.Given as goal

-- the rights that are left are of the request, and if they are allowed where all names match but those that are out, the
-- request is granted there
abbrev pub invariant-loop-right : goal.invariant-loop-right
invariant-loop-right l =
    (goal.iterator-loop-right).can_next l.right-iterator
    × (goal.iterator-loop-right).is_finite l.right-iterator
    × (length l.places ≡ 21)
    × ArePassed l.aces (situation l.matcher.object l.matcher.requester) l.fn.mask.bits (is_out l.out) l.places
    × AllByRecursion (λ bit. has_bit l.fn.mask.bits bit ≡ true) l.right-iterator
    × (AllByRecursion (λ bit. answer_under (all_but (is_out l.out)) (map ace l.aces)
    (situation l.matcher.object l.matcher.requester) bit ≡ Some Allow) l.right-iterator
    → GrantsUnder (all_but (is_out l.out)) (map ace l.aces) (situation l.matcher.object l.matcher.requester)
    l.fn.mask.bits)
