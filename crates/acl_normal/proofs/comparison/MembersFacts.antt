-- What a list grants to principals by their numbers.
use Rattle.acl_normal.proofs.Common.{Ace, all_mentioned, ap, arith, Bool, everyone, FindSet, has_bit, is_among, IsWhom, List, None, Option, Principal, principal_of, set_of, SmallSet, Some, subst, sym, takes_part, TwoLists, Whom, ℕ, ◌&&◌, ◌∙◌, ◌∷◌, ◌≡◌}
use Rattle.acl_normal.specs.internal.comparison.Members.{AreNumbered, is_matched, members_of, members_or_none}
use Rattle.acl_normal.specs.internal.comparison.SetSearch.{HasBitsOf}
use Rattle.acl_normal.specs.declared.comparison.members.Members.{Members}
use Rattle.acl_normal.specs.declared.comparison.members.Members.TheVariants as code

-- an ACE names one of the numbers or everyone if and only if it takes part and is of one of their principals or
-- everyone
matched_is : (whole : List Principal) (a : Ace) (w : Whom) (set : Members) → IsWhom whole a w → AreNumbered whole set
    → is_matched set w ≡ (takes_part a && is_among (principal_of a) (everyone ∷ members_of whole set))
matched_is whole a w code.Nobody h n = grind (arith, h.all)
matched_is whole a w (code.One i) h n = grind (arith, h.hit i n)
matched_is whole a w (code.Two i j) h n = grind (arith, h.hit i n.0, h.hit j n.1)

-- the bits of an ACE that names one of the numbers or everyone are those of an ACE of their principals
pub matched_bits : (whole : List Principal) {a : Ace} {w : Whom} (set : Members) {mask : ℕ} → IsWhom whole a w
    → AreNumbered whole set → ((bit : ℕ) → has_bit mask bit ≡ (has_bit a.mask bit && is_matched set w))
    → HasBitsOf a (members_of whole set) mask
matched_bits whole {a} {w} set h n is = record {
  bits = λ bit. is bit ∙ ap (λ t. has_bit a.mask bit && t) (matched_is whole a w set h n)
      ∙ regroup (has_bit a.mask bit) (takes_part a) (is_among (principal_of a) (everyone ∷ members_of whole set));
}
  where
    regroup : (x y z : Bool) → (x && (y && z)) ≡ ((x && y) && z)
    regroup x y z = grind arith

-- if members were found, the set of their principals is the small set that is found
pub found_members : (both : TwoLists) {found : Option Members} {members : Members} (set : SmallSet)
    → FindSet both (members_or_none (all_mentioned both) found) → found ≡ Some members
    → set_of set ≡ members_of (all_mentioned both) members → FindSet both (Some (set_of set))
found_members both set h e is =
    subst (λ v. FindSet both (Some v)) (sym is)
    (subst (λ v. FindSet both (members_or_none (all_mentioned both) v)) e h)

-- if no members were found, no small set is found
pub found_none : (both : TwoLists) (found : Option Members)
    → FindSet both (members_or_none (all_mentioned both) found) → found ≡ None → FindSet both None
found_none both found h e = subst (λ v. FindSet both (members_or_none (all_mentioned both) v)) e h
