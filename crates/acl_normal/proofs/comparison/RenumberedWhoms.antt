-- Whom the ACEs with a right name, by new numbers.
use Rattle.acl_normal.proofs.Common.{[], Ace, ap, AreWhoms, arith, Bool, eq-eqb, eqb-true, Everyone, everyone, false, false≢true, get_or-map, has_bit, inl, inr, IsWhom, length, length-map, List, map, Nobody, One, Principal, principal_eq, principal_of, refl, same_answers, slice_index_or, subst, sym, takes_part, true, Whom, ℕ, ◌&&◌, ◌<◌, ◌==◌, ◌∙◌, ◌∷◌, ◌≡◌, ◌⊎◌}
use Rattle.std.proofs.lemmas.Bool.{cases_order}
use Rattle.acl_normal.specs.internal.comparison.FirstPlaces.{is_of}
use Rattle.acl_normal.specs.internal.comparison.Columns.{IsUnnamed, all_renumbered, names_number, renumbered, with_right}

-- of rising numbers no two are the same
pub rising_apart : (numbers : List ℕ) (i j : ℕ)
    → ((i j : ℕ) → i < j → j < length numbers → slice_index_or numbers i 0 < slice_index_or numbers j 0)
    → i < length numbers → j < length numbers → slice_index_or numbers i 0 ≡ slice_index_or numbers j 0 → i ≡ j
rising_apart numbers i j rising li lj e = go (cases_order i j)
  where
    go : (i ≡ j) ⊎ ((i < j) ⊎ (j < i)) → i ≡ j
    go (inl same) = same
    go (inr (inl less)) = absurd (omega (arith, e, rising i j less lj))
    go (inr (inr more)) = absurd (omega (arith, e, rising j i more li))

-- for some of the principals, whose numbers rise
module _ (whole : List Principal) (numbers places : List ℕ)
    (below : (j : ℕ) → j < length numbers → slice_index_or numbers j 0 < length whole)
    (rising : (i j : ℕ) → i < j → j < length numbers → slice_index_or numbers i 0 < slice_index_or numbers j 0) where
  -- the principals with the numbers
  abbrev pub chosen : List Principal
  chosen = map (λ k. slice_index_or whole k everyone) numbers

  -- the number has a place among the numbers
  abbrev pub IsPlaced : ℕ → Type 0
  IsPlaced k = (slice_index_or places k 0 < length numbers)
      × (slice_index_or numbers (slice_index_or places k 0) 0 ≡ k)

  chosen_at : (j : ℕ) → j < length chosen
      → (j < length numbers)
      × (slice_index_or chosen j everyone ≡ slice_index_or whole (slice_index_or numbers j 0) everyone)
  chosen_at j l =
      let inside : j < length numbers =
      omega (arith, l, length-map numbers (λ k. slice_index_or whole k everyone)) in
      (inside, get_or-map (λ k. slice_index_or whole k everyone) numbers j 0 everyone inside)

  -- an ACE names by the new numbers whom it names
  pub whom_renumbered : (a : Ace) (w : Whom) → ((k : ℕ) → names_number w k ≡ true → IsPlaced k) → IsWhom whole a w
      → IsWhom chosen a (renumbered places w)
  whom_renumbered a Nobody at h = record {
    within = tt;
    part = h.part;
    all = h.all;
    hit = λ j l. let c = chosen_at j l in ap (is_of a) c.1 ∙ h.hit (slice_index_or numbers j 0) (below j c.0);
  }
  whom_renumbered a Everyone at h = record {
    within = tt;
    part = h.part;
    all = h.all;
    hit = λ j l. let c = chosen_at j l in ap (is_of a) c.1 ∙ h.hit (slice_index_or numbers j 0) (below j c.0);
  }
  whom_renumbered a (One i) at h =
      let p = at i (eq-eqb i i refl) in
      let inside = p.0 in
      record {
        within = omega (arith, inside, length-map numbers (λ k. slice_index_or whole k everyone));
        part = h.part;
        all = h.all;
        hit = λ j l. let c = chosen_at j l in
            ap (is_of a) c.1 ∙ h.hit (slice_index_or numbers j 0) (below j c.0)
            ∙ same_answers (slice_index_or numbers j 0 == i) (j == slice_index_or places i 0)
            (λ g. eq-eqb j (slice_index_or places i 0)
            (rising_apart numbers j (slice_index_or places i 0) rising c.0 inside
            (eqb-true (slice_index_or numbers j 0) i g ∙ sym p.1)))
            (λ g. eq-eqb (slice_index_or numbers j 0) i
            (ap (λ v. slice_index_or numbers v 0) (eqb-true j (slice_index_or places i 0) g) ∙ p.1));
      }

  -- an ACE with the right names only numbers that have a place
  named_placed : (a : Ace) (w : Whom) (bit : ℕ) → has_bit a.mask bit ≡ true → IsWhom whole a w
      → ((k : ℕ) → k < length whole → ((has_bit a.mask bit ≡ true
      → is_of a (slice_index_or whole k everyone) ≡ (takes_part a && principal_eq (principal_of a) everyone))
      ⊎ IsPlaced k)) → (k : ℕ) → names_number w k ≡ true → IsPlaced k
  named_placed a Nobody bit has h placed k e = absurd (false≢true e)
  named_placed a Everyone bit has h placed k e = absurd (false≢true e)
  named_placed a (One i) bit has h placed k e =
      let same : k ≡ i = eqb-true k i e in
      let inside : k < length whole = subst (λ v. v < length whole) (sym same) h.within in
      elim (placed k inside) [
        | inl u ↦ absurd (false≢true (sym h.all ∙ sym (u has) ∙ h.hit k inside ∙ e))
        | inr p ↦ p
      ]

  -- the ACEs with the right name by the new numbers whom they name
  pub whoms_renumbered : (bit : ℕ) (list : List Ace) (ws : List Whom) → AreWhoms whole list ws
      → ((k : ℕ) → k < length whole → IsUnnamed list bit (slice_index_or whole k everyone) ⊎ IsPlaced k)
      → AreWhoms chosen (with_right bit list) (all_renumbered places bit list ws)
  whoms_renumbered bit [] [] z placed = tt
  whoms_renumbered bit (a ∷ list) (w ∷ ws) z placed =
      go (has_bit a.mask bit) refl (whoms_renumbered bit list ws z.1 (λ k l. elim (placed k l) [
        | inl u ↦ inl (record { each = u.each.1 })
        | inr p ↦ inr p
      ]))
    where
      first : (k : ℕ) → k < length whole → ((has_bit a.mask bit ≡ true
          → is_of a (slice_index_or whole k everyone) ≡ (takes_part a && principal_eq (principal_of a) everyone))
          ⊎ IsPlaced k)
      first k l = elim (placed k l) [
        | inl u ↦ inl u.each.0
        | inr p ↦ inr p
      ]

      go : (t : Bool) → has_bit a.mask bit ≡ t
          → AreWhoms chosen (with_right bit list) (all_renumbered places bit list ws)
          → AreWhoms chosen (with_right bit (a ∷ list)) (all_renumbered places bit (a ∷ list) (w ∷ ws))
      go true e later = rw e (whom_renumbered a w (named_placed a w bit e z.0 first) z.0, later)
      go false e later = rw e later
  whoms_renumbered bit [] (w ∷ ws) z placed = absurd z
  whoms_renumbered bit (a ∷ list) [] z placed = absurd z
