-- Tables of the greatest places, as the code makes them.
use Rattle.acl_normal.proofs.Common.{List, Placing, [], ap, arith, cases_eq, cond, eq-eqb, false, get_or-replicate, get_or-set_other, get_or-set_same, get_or_read, inl, inr, length, length-replicate, length-set, max, ne_eqb, refl, replicate, slice_index_or, slice_set, subst, sym, take, take_more, true, ℕ, ◌&&◌, ◌+◌, ◌-◌, ◌<◌, ◌==◌, ◌∙◌, ◌∷◌, ◌≡◌, ◌≤◌, ◌⊎◌}
use Rattle.acl_normal.specs.internal.comparison.PlaceTables.{IsPlaceTable, IsScattered, Raises, is_opposing, most_at, most_before, other_place, place_of, wants}
use Rattle.acl_normal.specs.declared.comparison.inversions.Selection.{Selection}
use Rattle.acl_normal.specs.declared.comparison.inversions.Side.{Side}
use Rattle.acl_normal.proofs.comparison.GreatestPlaces.{at_zero, before_more, before_zero, most_at-append}

-- a placing that counts raises the value after its place
pub raises_set : (q : Selection) (w : Side) (r : Placing) (old new : List ℕ) (j v : ℕ) → j < length old
    → is_opposing q r ≡ true
    → j ≡ place_of w r + 1 → v ≡ other_place w r + 1 → new ≡ slice_set old j (max (slice_index_or old j 0) v)
    → Raises q w r old new
raises_set q w r old new j v lt c jk vk is =
    record {
      count = ap length is ∙ length-set old j (max (slice_index_or old j 0) v);
      each =
          λ k lk. ap (λ l. slice_index_or l k 0) is ∙ at k (cases_eq k j);
    }
  where
    at : (k : ℕ) → (k ≡ j) ⊎ (k ≡ j → ⊥)
        → slice_index_or (slice_set old j (max (slice_index_or old j 0) v)) k 0
        ≡ max (slice_index_or old k 0) (cond (is_opposing q r && (place_of w r + 1 == k)) (other_place w r + 1) 0)
    at k (inl e) = ap (λ i. slice_index_or (slice_set old j (max (slice_index_or old j 0) v)) i 0) e
        ∙ get_or-set_same old j (max (slice_index_or old j 0) v) 0 lt
        ∙ rw (c, eq-eqb (place_of w r + 1) k (sym jk ∙ sym e))
        (ap (λ i. max (slice_index_or old i 0) v) (sym e) ∙ ap (λ x. max (slice_index_or old k 0) x) vk)
    at k (inr n) = get_or-set_other old j k (max (slice_index_or old j 0) v) 0 n
        ∙ rw (c, ne_eqb (place_of w r + 1) k (λ e. n (sym e ∙ sym jk))) (omega arith)

-- a placing that does not count raises nothing
pub raises_none : (q : Selection) (w : Side) (r : Placing) (old : List ℕ) → is_opposing q r ≡ false
    → Raises q w r old old
raises_none q w r old c = record { count = refl; each = λ k lk. rw c (omega arith) }

-- before the first placing the table is zero everywhere
pub scatter_start : (q : Selection) (w : Side) (size n : ℕ) (table : List ℕ) → table ≡ replicate n 0 → n ≡ size + 2
    → IsScattered q w size [] table
scatter_start q w size n table is e =
    record {
      count = ap length is ∙ length-replicate n 0 ∙ e;
      each = λ k lt. ap (λ l. slice_index_or l k 0) is
          ∙ get_or-replicate n k 0 0 (omega arith);
    }

-- a table that is raised by the next placing is scattered of the placings up to it
pub scatter_more : {q : Selection} {w : Side} {size i : ℕ} (rows : List Placing) (d : Placing) {old new : List ℕ}
    → i < length rows
    → Raises q w (slice_index_or rows i d) old new → IsScattered q w size (take i rows) old
    → IsScattered q w size (take (i + 1) rows) new
scatter_more {q} {w} {size} {i} rows d {old} lt up h = record {
  count = up.count ∙ h.count;
  each = λ k lk. up.each k (omega (arith, h.count)) ∙ whole k (h.each k lk)
      ∙ sym (ap (most_at q w k) (take_more rows i d lt)
      ∙ most_at-append q w k (take i rows) (slice_index_or rows i d ∷ []));
}
  where
    whole : (k : ℕ) → slice_index_or old k 0 ≡ most_at q w k (take i rows)
        → max (slice_index_or old k 0)
        (cond (is_opposing q (slice_index_or rows i d) && (place_of w (slice_index_or rows i d) + 1 == k))
        (other_place w (slice_index_or rows i d) + 1) 0)
        ≡ max (most_at q w k (take i rows))
        (max (cond (is_opposing q (slice_index_or rows i d) && (place_of w (slice_index_or rows i d) + 1 == k))
        (other_place w (slice_index_or rows i d) + 1) 0) 0)
    whole k e = omega arith

-- the places below k are finished
pub record IsSummed (q : Selection) (w : Side) (size k : ℕ) (rows : List Placing) (table : List ℕ) : Type 0 where
  pub count : length table ≡ size + 2
  pub done : (j : ℕ) → j < k → slice_index_or table j 0 ≡ most_before q w j rows
  pub left : (j : ℕ) → k ≤ j → j < size + 2 → slice_index_or table j 0 ≡ most_at q w j rows

-- a scattered table is finished below place 1, since no placing is before place 0
pub summed_start : {q : Selection} {w : Side} {size : ℕ} {rows : List Placing} {table : List ℕ}
    → IsScattered q w size rows table
    → IsSummed q w size 1 rows table
summed_start {q} {w} {size} {rows} {table} h = record {
  count = h.count;
  done = λ j lt. let e : j ≡ 0 = omega arith in
      subst (λ v. slice_index_or table v 0 ≡ most_before q w v rows) (sym e)
      (h.each 0 (omega arith) ∙ at_zero q w rows ∙ sym (before_zero q w rows));
  left = λ j lo lt. h.each j lt;
}

-- with the greater of its own and the value before it at place k, a table is finished below k + 1
pub summed_more : {q : Selection} {w : Side} {size k x y : ℕ} {rows : List Placing} {old new : List ℕ} → 0 < k
    → k < size + 2
    → x ≡ slice_index_or old k x → y ≡ slice_index_or old (k - 1) y → new ≡ slice_set old k (max x y)
    → IsSummed q w size k rows old → IsSummed q w size (k + 1) rows new
summed_more {q} {w} {size} {k} {x} {y} {rows} {old} pos lt xi yi is h = record {
  count = ap length is ∙ length-set old k (max x y) ∙ h.count;
  done = λ j l. ap (λ v. slice_index_or v j 0) is ∙ at j l (cases_eq j k);
  left = λ j lo l. ap (λ v. slice_index_or v j 0) is
      ∙ get_or-set_other old k j (max x y) 0 (λ e. absurd (omega arith)) ∙ h.left j (omega arith) l;
}
  where
    value : max x y ≡ most_before q w k rows
    value =
        let i : ℕ = k - 1 in
        let next : k ≡ i + 1 = omega arith in
        let here : x ≡ most_at q w k rows = get_or_read old k x (omega (arith, h.count)) xi 0
        ∙ h.left k (omega arith) lt in
        let before : y ≡ most_before q w i rows = get_or_read old (k - 1) y (omega (arith, h.count)) yi 0
        ∙ h.done i (omega arith) in
        let whole : most_before q w k rows ≡ max (most_at q w k rows) (most_before q w i rows) =
        subst (λ v. most_before q w v rows ≡ max (most_at q w v rows) (most_before q w i rows)) (sym next)
        (before_more q w i rows) in
        omega arith

    at : (j : ℕ) → j < k + 1 → (j ≡ k) ⊎ (j ≡ k → ⊥)
        → slice_index_or (slice_set old k (max x y)) j 0 ≡ most_before q w j rows
    at j l (inl e) = subst (λ v. slice_index_or (slice_set old k (max x y)) v 0 ≡ most_before q w v rows) (sym e)
        (get_or-set_same old k (max x y) 0 (omega (arith, h.count)) ∙ value)
    at j l (inr n) = get_or-set_other old k j (max x y) 0 n ∙ h.done j (omega arith)

-- after the last place the table is finished
pub summed_done : (q : Selection) (w : Side) (size k : ℕ) (rows : List Placing) (table : List ℕ) → wants q w ≡ true
    → size + 2 ≤ k → IsSummed q w size k rows table → IsPlaceTable q w size rows table
summed_done q w size k rows table wanted le h = record {
  count = h.count;
  each = λ j lt. h.done j (omega arith) ∙ sym (ap (λ t. cond t (most_before q w j rows) 0) wanted);
}

-- the table of a side that is not wanted is zero everywhere
pub unwanted : (q : Selection) (w : Side) (size n : ℕ) (rows : List Placing) (table : List ℕ) → wants q w ≡ false
    → table ≡ replicate n 0 → n ≡ size + 2 → IsPlaceTable q w size rows table
unwanted q w size n rows table off is e = record {
  count = ap length is ∙ length-replicate n 0 ∙ e;
  each = λ k lt. ap (λ l. slice_index_or l k 0) is ∙ get_or-replicate n k 0 0 (omega arith)
      ∙ sym (ap (λ t. cond t (most_before q w k rows) 0) off);
}

-- a placing raises the table, or leaves it
pub ruleset raising = (raises_set, raises_none)
