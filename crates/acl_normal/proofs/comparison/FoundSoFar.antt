-- The first pair of principals at which two lists differ, right by right.
use Rattle.acl_normal.proofs.Common.{[], all_mentioned, all_rights, arith, cases_eq, cases_lt, eq-eqb, everyone, false, has_bit, inl, inr, le-ltb, lt-ltb, may_overlap, ne_eqb, refl, subst, sym, true, TwoLists, ℕ, ◌+◌, ◌<◌, ◌∙◌, ◌∷◌, ◌≡◌, ◌≤◌, ◌⊎◌}
use Rattle.std.proofs.lemmas.Bool.{cases_order}
use Rattle.acl_normal.proofs.Each.{all_at}
use Rattle.acl_normal.proofs.comparison.RowFacts.{Least, least_done, least_skip, least_start, least_step, same_alike, same_pairs}
use Rattle.acl_normal.specs.internal.comparison.FirstPlaces.{IsLeast}
use Rattle.acl_normal.specs.internal.comparison.FirstPair.{AlikeToLater, AreLeast, IsFoundOnAll, IsFoundOn, IsNothing, mentioned_count, earlier_of, is_found_before}
use Rattle.acl_normal.specs.internal.comparison.SetSearch.{AlikeAt}
use Rattle.acl_normal.specs.internal.comparison.TwoLists.{AlikeToPairs, HaveSameColumn, principal_at}
use Rattle.acl_normal.specs.declared.comparison.first_pair.FirstPair.{FirstPair}

-- what is found on the rights so far
abbrev pub IsFoundBelow : TwoLists → ℕ → FirstPair → Type 0
IsFoundBelow both bit = AreLeast both (λ Q. Least Q (mentioned_count both) bit)

-- before the first right nothing is found
pub nothing_found : {both : TwoLists} {f : FirstPair} → IsNothing both f → IsFoundBelow both 0 f
nothing_found {both} {f} h = record {
  member = least_start (AlikeToPairs both) (mentioned_count both) f.member h.member;
  partner = λ _. least_start (AlikeToLater both f.member) (mentioned_count both) f.partner h.partner;
}

-- a right on which both lists have the same column changes nothing
pub found_skip : {both : TwoLists} {bit : ℕ} {f : FirstPair} → HaveSameColumn both bit → IsFoundBelow both bit f
    → IsFoundBelow both (bit + 1) f
found_skip {both} {bit} {f} same h = record {
  member = least_skip (same_pairs both bit same) h.member;
  partner = λ l. least_skip
      (λ k later o. same_alike both bit (principal_at both f.member ∷ principal_at both k ∷ []) same) (h.partner l);
}

-- the least number of one more right is the least, if it is not greater
least_new : {Q : ℕ → ℕ → Type 0} {n bit old next : ℕ} → next ≤ old → has_bit all_rights bit ≡ true
    → IsLeast (Q bit) n next → Least Q n bit old → Least Q n (bit + 1) next
least_new {Q} {n} {bit} {old} {next} le has i h =
    least_step Q n bit old next le (λ k l. i.before k l)
    (λ l all. i.at (omega (arith, l, h.within)) (all bit has)) h

-- the least number so far stays, if it is not greater
least_old : {Q : ℕ → ℕ → Type 0} {n bit old next : ℕ} → old ≤ next → IsLeast (Q bit) n next → Least Q n bit old
    → Least Q n (bit + 1) old
least_old {Q} {n} {bit} {old} {next} le i h =
    least_step Q n bit old old (omega arith) (λ k l. i.before k (omega (arith, l, le))) (λ l. absurd (omega (arith, l)))
    h

-- a principal that agrees with all agrees with each later one
agrees_later : (both : TwoLists) (at bit k : ℕ) → k < mentioned_count both → AlikeToPairs both bit at
    → AlikeToLater both at bit k
agrees_later both at bit k lt h later o =
    all_at (λ q. may_overlap (principal_at both at) q ≡ true
    → AlikeAt both.direction both.first both.second (principal_at both at ∷ q ∷ []) bit) (all_mentioned both) k everyone
    lt h o

-- the earlier of what is found on the rights so far and on one more is what is found on all of them
pub found_more : {both : TwoLists} {bit : ℕ} {f g new : FirstPair} → has_bit all_rights bit ≡ true
    → new ≡ earlier_of f g
    → IsFoundBelow both bit f → IsFoundOn both bit g → IsFoundBelow both (bit + 1) new
found_more {both} {bit} {f} {g} {new} has is h i =
    by_member (cases_order g.member f.member)
  where
    n : ℕ
    n = mentioned_count both

    is_g : is_found_before g f ≡ true → IsFoundBelow both (bit + 1) g → IsFoundBelow both (bit + 1) new
    is_g e found = subst (IsFoundBelow both (bit + 1)) (sym (is ∙ rw e refl)) found

    is_f : is_found_before g f ≡ false → IsFoundBelow both (bit + 1) f → IsFoundBelow both (bit + 1) new
    is_f e found = subst (IsFoundBelow both (bit + 1)) (sym (is ∙ rw e refl)) found

    by_partner : g.member ≡ f.member → (g.partner < f.partner) ⊎ (f.partner ≤ g.partner)
        → IsFoundBelow both (bit + 1) new
    by_partner m (inl less) =
        is_g (rw (
          le-ltb g.member f.member (omega (arith, m)),
          eq-eqb g.member f.member m,
          lt-ltb g.partner f.partner less,
        ) refl) (record {
          member = least_new (omega (arith, m)) has i.member h.member;
          partner = λ l. least_new (omega (arith, less)) has (i.partner l)
              (subst (λ v. Least (AlikeToLater both v) n bit f.partner) (sym m) (h.partner (omega (arith, l, m))));
        })
    by_partner m (inr more) =
        is_f (rw (
          le-ltb g.member f.member (omega (arith, m)),
          eq-eqb g.member f.member m,
          le-ltb g.partner f.partner more,
        ) refl) (record {
          member = least_old (omega (arith, m)) i.member h.member;
          partner = λ l. least_old more
              (subst (λ v. IsLeast (AlikeToLater both v bit) n g.partner) m
              (i.partner (omega (arith, l, m)))) (h.partner l);
        })

    by_member : (g.member ≡ f.member) ⊎ ((g.member < f.member) ⊎ (f.member < g.member))
        → IsFoundBelow both (bit + 1) new
    by_member (inl m) = by_partner m (cases_lt g.partner f.partner)
    by_member (inr (inl less)) =
        is_g (rw (lt-ltb g.member f.member less) refl) (record {
          member = least_new (omega (arith, less)) has i.member h.member;
          partner = λ l.
              let own = i.partner l in
              let old = h.member in
              record {
                within = own.within;
                before = λ k lk b lb has_b. elim (cases_eq b bit) [
                  | inl same ↦ subst (λ v. AlikeToLater both g.member v k) (sym same) (own.before k lk)
                  | inr other ↦ agrees_later both g.member b k (omega (arith, lk, own.within))
                      (old.before g.member less b (omega (arith, lb, other)) has_b)
                ];
                at = λ lp all. own.at lp (all bit has);
              };
        })
    by_member (inr (inr more)) =
        is_f (rw (
          le-ltb g.member f.member (omega (arith, more)),
          ne_eqb g.member f.member (λ e. omega (arith, e, more)),
        ) refl)
        (record {
          member = least_old (omega (arith, more)) i.member h.member;
          partner = λ l.
              let old = h.partner l in
              least_step (AlikeToLater both f.member) n bit f.partner f.partner (omega arith)
              (λ k lk. agrees_later both f.member bit k (omega (arith, lk, old.within)) (i.member.before f.member more))
              (λ lp. absurd (omega (arith, lp))) old;
        })

-- after the last right it is what is found on all rights
pub found_done : {both : TwoLists} {bit : ℕ} {f : FirstPair} → 21 ≤ bit → IsFoundBelow both bit f
    → IsFoundOnAll both f
found_done {both} {bit} {f} le h = record {
  member = least_done le h.member;
  partner = λ l. least_done le (h.partner l);
}
