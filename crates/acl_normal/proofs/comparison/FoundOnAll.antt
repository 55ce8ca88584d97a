-- The first small set, of the first principal and the first pair at which two lists differ on all rights.
use Rattle.acl_normal.proofs.Common.{[], all_mentioned, ap, arith, cases_lt, everyone, FindSet, inl, inr, length, may_overlap, None, refl, slice_index_or, Some, subst, sym, true, TwoLists, ℕ, ◌+◌, ◌-◌, ◌<◌, ◌∙◌, ◌∷◌, ◌≡◌, ◌≤◌}
use Rattle.std.proofs.lemmas.List.{get_or-drop, length-drop}
use Rattle.acl_normal.proofs.comparison.Assembly.{none_answer, pair_answer, partner_within, single_answer}
use Rattle.acl_normal.specs.internal.comparison.FirstPlaces.{IsLeast, OnAll}
use Rattle.acl_normal.specs.internal.comparison.FirstPair.{AlikeToLater, AreAlikeAlone, IsFoundOnAll, mentioned_count}
use Rattle.acl_normal.specs.internal.comparison.SetSearch.{AlikeAt}
use Rattle.acl_normal.specs.internal.comparison.TwoLists.{AreAlikeTo, IsFirstPartner, IsFirstSingle, later_than, principal_at}
use Rattle.acl_normal.specs.declared.comparison.first_pair.FirstPair.{FirstPair}

-- the first partner, counted from the principal after the member
later_partner : (both : TwoLists) (at partner : ℕ) → at < mentioned_count both
    → IsLeast (OnAll (AlikeToLater both at)) (mentioned_count both) partner
    → (at + 1 ≤ partner) × IsFirstPartner both at (partner - (at + 1))
later_partner both at partner lt h = (
  after,
  record {
    within = omega (arith, after, h.within, long);
    before = λ k lk b has o.
        let q : slice_index_or (later_than both at) k everyone ≡ principal_at both (at + 1 + k) = later_is k in
        subst (λ v. AlikeAt both.direction both.first both.second (principal_at both at ∷ v ∷ []) b) (sym q)
        (h.before (at + 1 + k) (omega (arith, lk, after)) b has (omega arith)
        (subst (λ v. may_overlap (principal_at both at) v ≡ true) q o));
    at = λ lw all. h.at (omega (arith, lw, long, after)) (λ b has later o.
        let q : slice_index_or (later_than both at) (partner - (at + 1)) everyone ≡ principal_at both partner =
        later_is (partner - (at + 1)) ∙ ap (principal_at both) (omega (arith, after)) in
        subst (λ v. AlikeAt both.direction both.first both.second (principal_at both at ∷ v ∷ []) b) q
        (all b has (subst (λ v. may_overlap (principal_at both at) v ≡ true) (sym q) o)));
  },
)
  where
    after : at + 1 ≤ partner
    after = elim (cases_lt partner (at + 1)) [
      | inl less ↦ absurd (h.at (omega (arith, less, lt)) (λ b has later. absurd (omega (arith, later, less))))
      | inr more ↦ more
    ]

    long : length (later_than both at) + (at + 1) ≡ mentioned_count both
    long = omega (arith, length-drop (at + 1) (all_mentioned both), lt)

    later_is : (k : ℕ) → slice_index_or (later_than both at) k everyone ≡ principal_at both (at + 1 + k)
    later_is k = get_or-drop (at + 1) (all_mentioned both) k everyone

-- a single principal that is found is the first small set
pub found_one : (both : TwoLists) {single : ℕ} → AreAlikeTo both [] → IsFirstSingle both single
    → single < mentioned_count both → FindSet both (Some (principal_at both single ∷ []))
found_one both {single} empty least lt = single_answer both (principal_at both single) single empty least lt refl

-- if there is no such principal, the lists do not differ for any alone
pub alike_alone : (both : TwoLists) {single : ℕ} → IsFirstSingle both single → mentioned_count both ≤ single
    → AreAlikeAlone both
alike_alone both least le k l = least.before k (omega (arith, l, le))

-- if nothing is found, there is no such set
pub found_nobody : (both : TwoLists) {single : ℕ} {f : FirstPair} → AreAlikeTo both [] → IsFirstSingle both single
    → mentioned_count both ≤ single → IsFoundOnAll both f → f.member ≡ mentioned_count both → FindSet both None
found_nobody both {single} {f} empty least le found is =
    none_answer both single f.member empty least le found.member is

-- a pair that is found is the first small set, and both numbers are those of principals
pub found_two : (both : TwoLists) {single : ℕ} {f : FirstPair} → AreAlikeTo both [] → IsFirstSingle both single
    → mentioned_count both ≤ single → IsFoundOnAll both f → (f.member ≡ mentioned_count both → ⊥)
    → FindSet both (Some (principal_at both f.member ∷ principal_at both f.partner ∷ []))
    × ((f.member < mentioned_count both) × (f.partner < mentioned_count both))
found_two both {single} {f} empty least le found some =
    let member = found.member in
    let inside = member.within in
    let lt : f.member < mentioned_count both = omega (arith, inside, some) in
    let partner = later_partner both f.member f.partner lt (found.partner lt) in
    let after = partner.0 in (
      pair_answer both empty least le member lt partner.1 (omega (arith, after)) refl refl,
      (lt, omega (arith, after, partner_within both least le member lt partner.1)),
    )
