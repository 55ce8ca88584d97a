-- What the first small set at which two lists differ in a direction says of them.
use Rattle.acl_normal.proofs.Common.{Ace, all_mentioned, ap, FindSet, full, IsAccepted, IsSituation, List, None, Option, Principal, refl, small_sets, SmallSet, Some, subst, sym, true, two_lists, TwoLists, ◌∙◌, ◌≡◌}
use Rattle.acl_normal.proofs.unique.Accepted.{accepted_names}
use Rattle.acl_normal.proofs.comparison.Differing.{AlikeEverywhere, FirstApart, alike_if_at_most, alike_if_same, at_most_everywhere, is_first_difference, is_first_excess, not_everywhere, over_grants, same_everywhere, tells_apart}
use Rattle.acl_normal.proofs.comparison.SmallSetLemmas.{first_apart, first_set, found_is_situation, none_then_alike}
use Rattle.acl_normal.specs.Difference.{situation_of}
use Rattle.acl_normal.specs.SmallSets.{TellsApart}
use Rattle.acl_normal.specs.internal.comparison.CodeSets.{set_or_none}
use Rattle.acl_normal.specs.internal.comparison.TwoLists.{AreAlikeTo, AreNamed, DifferLowestOn, IsFoundIn, IsSearched, situation_at}
use Rattle.acl_normal.specs.declared.comparison.Difference.{Difference}
use Rattle.acl_normal.specs.declared.comparison.direction.Direction.{Direction}
use Rattle.acl_normal.specs.declared.comparison.direction.Direction.TheVariants.{Either, Over}

-- if no set is found, the search finds that the lists do not differ in the direction
pub none_compared : (both : TwoLists) → FindSet both None → IsSearched both None
none_compared both h = go both.direction (none_then_alike both.direction both.first both.second h.first)
  where
    go : (way : Direction) → AlikeEverywhere way both.first both.second → IsFoundIn way both.first both.second None
    go Either alike = record {
      same = (λ _. same_everywhere both.first both.second alike, λ _. refl);
      first = tt;
      requester = tt;
    }
    go Over alike = record {
      contained = (λ _. at_most_everywhere both.first both.second alike, λ _. refl);
      first = tt;
      requester = tt;
      grants = tt;
    }

-- the lists do not grant alike at the set that is found
pub differs_there : (both : TwoLists) (set : List Principal) → FindSet both (Some set) → AreAlikeTo both set → ⊥
differs_there both set h =
    (first_set both.direction both.first both.second (small_sets (all_mentioned both)) set h.first).differs

-- the names of the small situation of the set that is found are names
pub situation_there : (both : TwoLists) (set : List Principal) → AreNamed both → FindSet both (Some set)
    → IsSituation (situation_at both set)
situation_there both set named h =
    found_is_situation both.direction both.first both.second set named.first named.second h.first

-- if a set is found, the search finds the first difference at its small situation
pub some_compared : (both : TwoLists) (set : List Principal) (d : Difference) → AreNamed both → FindSet both (Some set)
    → situation_of d ≡ situation_at both set → DifferLowestOn both set d → IsSearched both (Some d)
some_compared both set d named h at low = go both.direction
    (subst (λ s. FirstApart both.direction both.first both.second s d.bit.bits d.first_grants) (sym at)
    (first_apart both.direction both.first both.second set low.bit d.bit.bits d.first_grants h.first low.one_bit
    low.of_rights low.differs low.lowest low.first))
  where
    valid : IsSituation (situation_of d)
    valid = subst IsSituation (sym at) (situation_there both set named h)

    go : (way : Direction) → FirstApart way both.first both.second (situation_of d) d.bit.bits d.first_grants
        → IsFoundIn way both.first both.second (Some d)
    go Either first = record {
      same = (
        λ e. absurd (cc),
        λ same. absurd (not_everywhere valid first (alike_if_same both.first both.second same)),
      );
      first = is_first_difference first;
      requester = tells_apart valid first;
    }
    go Over first =
        let grants : d.first_grants ≡ true = over_grants first in
        record {
          contained = (
            λ e. absurd (cc),
            λ within. absurd (not_everywhere valid first (alike_if_at_most both.first both.second within)),
          );
          first = is_first_excess first;
          requester = subst (λ t. TellsApart both.first both.second (situation_of d) d.bit.bits t) grants
              (tells_apart valid first);
          grants = grants;
        }

-- an answer that equals what was found is what is found
pub found_is : (both : TwoLists) (found r : Option SmallSet) → FindSet both (set_or_none found) → found ≡ r
    → FindSet both (set_or_none r)
found_is both found r h e = subst (λ v. FindSet both (set_or_none v)) e h

-- two lists that equal those that the code compares are the compared lists
both_are : (both : TwoLists) (way : Direction) (xs ys vs ws : List Ace) → both ≡ two_lists way vs ws → vs ≡ xs → ws ≡ ys
    → both ≡ two_lists way xs ys
both_are both way xs ys vs ws is first second =
    is ∙ ap (λ v. two_lists way v ws) first ∙ ap (two_lists way xs) second

-- accepted lists have names, also as the code holds them
pub named_of : {both : TwoLists} {way : Direction} {xs ys vs ws : List Ace} → both ≡ two_lists way vs ws → vs ≡ xs
    → ws ≡ ys → IsAccepted full xs → IsAccepted full ys → AreNamed both
named_of {both} {way} {xs} {ys} {vs} {ws} is first second here there =
    subst AreNamed (sym (both_are both way xs ys vs ws is first second))
    (record { first = accepted_names full xs here; second = accepted_names full ys there })
