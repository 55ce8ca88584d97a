-- The heap of the numbers that have bits.
use Rattle.acl_normal.proofs.Common.{[], ap, arith, cases_eq, cases_lt, cond, eq-eqb, false, get_or-set_other, get_or-set_same, inl, inr, is_lt, length, List, lt-ltb, nat_cmp, refl, slice_index_or, slice_set, subst, suc, sym, true, ℕ, ◌+◌, ◌<◌, ◌==◌, ◌∙◌, ◌∷◌, ◌≡◌, ◌≢◌, ◌≤◌, ◌⊎◌, ne_eqb}
use Rattle.std.specs.BinaryHeap.{IsUpperBound, KeepsHeap, PopsGreatest}
use Rattle.std.specs.List.Sorted.{IsPermutation}
use Rattle.std.specs.declared.cmp.Reverse.{Reverse}
use Rattle.std.proofs.lemmas.List.Sorted.{sum_by-IsPermutation}
use Rattle.std.proofs.lemmas.List.Sums.{sum_by-cons}
use Rattle.acl_normal.specs.internal.emit.Heaped.{backwards, times, IsHeapOf}
use Rattle.acl_normal.proofs.emit.Marks.{number_within}

-- one number more in the heap is in it once more
times_more : (m : ℕ) (r : Reverse ℕ) (heap : List (Reverse ℕ)) → times m (r ∷ heap) ≡ cond (r.0 == m) 1 0 + times m heap
times_more m r heap = sum_by-cons (λ r. cond (r.0 == m) 1 0) r heap

-- a heap in another order has each number as often
times_moved : (m : ℕ) (xs ys : List (Reverse ℕ)) → IsPermutation xs ys → times m ys ≡ times m xs
times_moved m xs ys p = sum_by-IsPermutation (λ r. cond (r.0 == m) 1 0) xs ys p

-- no more than n is n
none_more : (n : ℕ) → 0 + n ≡ n
none_more n = omega arith

-- one more than n is the number after n
one_more : (n : ℕ) → 1 + n ≡ suc n
one_more n = omega arith

-- a number that is in the heap has bits
pub counted_some : (bits : List ℕ) (heap : List (Reverse ℕ)) (n k : ℕ) → IsHeapOf bits heap → times n heap ≡ suc k
    → slice_index_or bits n 0 ≢ 0
counted_some bits heap n k h is none =
    let no : times n heap ≡ 0 = h.once n ∙ rw none refl in
    cc

-- the heap stays that of the bits when a number that has some bits gets others
pub heap_marked : (bits new : List ℕ) (heap : List (Reverse ℕ)) (n v : ℕ) → IsHeapOf bits heap
    → slice_index_or bits n 0 ≢ 0 → v ≢ 0 → new ≡ slice_set bits n v → IsHeapOf new heap
heap_marked bits new heap n v h some full set = record { order = h.order; once = λ m. go m (cases_eq m n) }
  where
    go : (m : ℕ) → (m ≡ n) ⊎ (m ≡ n → ⊥) → times m heap ≡ cond (slice_index_or new m 0 == 0) 0 1
    go m (inl e) =
        let was : times n heap ≡ 1 = h.once n ∙ ap (λ t. cond t 0 1) (ne_eqb (slice_index_or bits n 0) 0 some) in
        let is : slice_index_or new n 0 ≡ v =
        ap (λ w. slice_index_or w n 0) set ∙ get_or-set_same bits n v 0 (number_within bits n some) in
        rw (e, is, ne_eqb v 0 full) was
    go m (inr d) =
        h.once m ∙ ap (λ w. cond (w == 0) 0 1)
        (sym (get_or-set_other bits n m v 0 d) ∙ ap (λ w. slice_index_or w m 0) (sym set))

-- a number that gets its first bits is pushed into the heap
pub heap_pushed : (bits new : List ℕ) (heap next : List (Reverse ℕ)) (r : Reverse ℕ) (n v : ℕ) → IsHeapOf bits heap
    → slice_index_or bits n 0 ≡ 0 → n < length bits → r.0 ≡ n → IsPermutation (r ∷ heap) next
    → KeepsHeap backwards heap next → v ≢ 0 → new ≡ slice_set bits n v → IsHeapOf new next
heap_pushed bits new heap next r n v h none within is moved keeps full set = record {
  order = keeps h.order;
  once = λ m. times_moved m (r ∷ heap) next moved ∙ times_more m r heap ∙ go m (cases_eq m n);
}
  where
    go : (m : ℕ) → (m ≡ n) ⊎ (m ≡ n → ⊥)
        → cond (r.0 == m) 1 0 + times m heap ≡ cond (slice_index_or new m 0 == 0) 0 1
    go m (inl e) =
        let was : times m heap ≡ 0 = ap (λ w. times w heap) e ∙ h.once n ∙ rw none refl in
        let now : slice_index_or new m 0 ≡ v =
        ap (λ w. slice_index_or new w 0) e ∙ ap (λ w. slice_index_or w n 0) set ∙ get_or-set_same bits n v 0 within in
        rw (is, eq-eqb n m (sym e), was, now, ne_eqb v 0 full) refl
    go m (inr d) =
        rw (is, ne_eqb n m (λ e. d (sym e))) (none_more (times m heap) ∙ h.once m ∙ ap (λ w. cond (w == 0) 0 1)
        (sym (get_or-set_other bits n m v 0 d) ∙ ap (λ w. slice_index_or w m 0) (sym set)))

-- each number is in the heap as often as in the rest, and the popped one once more
popped_times : (heap rest : List (Reverse ℕ)) (r : Reverse ℕ) (n m : ℕ) → r.0 ≡ n → IsPermutation heap (r ∷ rest)
    → times m heap ≡ cond (n == m) 1 0 + times m rest
popped_times heap rest r n m is moved =
    sym (times_moved m heap (r ∷ rest) moved) ∙ times_more m r rest
    ∙ ap (λ w. cond (w == m) 1 0 + times m rest) is

-- what is popped has bits
pub popped_some : {bits : List ℕ} {heap rest : List (Reverse ℕ)} {r : Reverse ℕ} {n : ℕ} → IsHeapOf bits heap → r.0 ≡ n
    → IsPermutation heap (r ∷ rest) → slice_index_or bits n 0 ≢ 0
popped_some {bits} {heap} {rest} {r} {n} h is moved =
    counted_some bits heap n (times n rest) h
    (popped_times heap rest r n n is moved ∙ rw (eq-eqb n n refl) (one_more (times n rest)))

-- the rest is the heap of the bits when the number that is popped has none any more
pub heap_popped : (bits new : List ℕ) (heap rest : List (Reverse ℕ)) (r : Reverse ℕ) (n : ℕ) → IsHeapOf bits heap
    → r.0 ≡ n → IsPermutation heap (r ∷ rest) → PopsGreatest backwards heap r rest → new ≡ slice_set bits n 0
    → IsHeapOf new rest
heap_popped bits new heap rest r n h is moved pops set = record {
  order = (pops h.order).0;
  once = λ m. go m (cases_eq m n) (popped_times heap rest r n m is moved);
}
  where
    some : slice_index_or bits n 0 ≢ 0
    some = popped_some h is moved

    go : (m : ℕ) → (m ≡ n) ⊎ (m ≡ n → ⊥) → times m heap ≡ cond (n == m) 1 0 + times m rest
        → times m rest ≡ cond (slice_index_or new m 0 == 0) 0 1
    go m (inl e) count =
        let was : times m heap ≡ 1 =
        ap (λ w. times w heap) e ∙ h.once n ∙ ap (λ t. cond t 0 1) (ne_eqb (slice_index_or bits n 0) 0 some) in
        let now : slice_index_or new m 0 ≡ 0 =
        ap (λ w. slice_index_or new w 0) e ∙ ap (λ w. slice_index_or w n 0) set
        ∙ get_or-set_same bits n 0 0 (number_within bits n some) in
        let one : times m heap ≡ 1 + times m rest = count ∙ rw (eq-eqb n m (sym e)) refl in
        let none : times m rest ≡ 0 = omega (arith, was, one) in
        rw now none
    go m (inr d) count =
        let same : times m heap ≡ times m rest = count ∙ rw (ne_eqb n m (λ e. d (sym e))) (none_more (times m rest)) in
        sym same ∙ h.once m ∙ ap (λ w. cond (w == 0) 0 1)
        (sym (get_or-set_other bits n m 0 0 d) ∙ ap (λ w. slice_index_or w m 0) (sym set))

-- a number that is not less than another is at least that
not_less : (m n : ℕ) → is_lt (nat_cmp m n) ≡ false → n ≤ m
not_less m n h = go (cases_lt m n)
  where
    go : (m < n) ⊎ (n ≤ m) → n ≤ m
    go (inr l) = l
    go (inl l) =
        let less : is_lt (nat_cmp m n) ≡ true = rw (lt-ltb m n l) refl in
        cc

-- no number of the heap is below its least
counted_least : (r : Reverse ℕ) (heap : List (Reverse ℕ)) (m : ℕ) → IsUpperBound backwards r heap → times m heap ≢ 0
    → r.0 ≤ m
counted_least r [] m above some = absurd (some refl)
counted_least r (s ∷ heap) m above some = go (cases_eq m s.0) (counted_least r heap m above.1)
  where
    go : (m ≡ s.0) ⊎ (m ≡ s.0 → ⊥) → (times m heap ≢ 0 → r.0 ≤ m) → r.0 ≤ m
    go (inl e) ih = subst (λ w. r.0 ≤ w) (sym e) (not_less s.0 r.0 above.0)
    go (inr d) ih = ih (λ none. some (times_more m s heap ∙ rw (ne_eqb s.0 m (λ e. d (sym e)), none) refl))

-- no number that has bits is below the one that is popped
pub popped_least : (bits : List ℕ) (heap rest : List (Reverse ℕ)) (r : Reverse ℕ) (n m : ℕ) → IsHeapOf bits heap
    → r.0 ≡ n → PopsGreatest backwards heap r rest → slice_index_or bits m 0 ≢ 0 → n ≤ m
popped_least bits heap rest r n m h is pops some =
    subst (λ w. w ≤ m) is (counted_least r heap m (pops h.order).1 counted)
  where
    counted : times m heap ≢ 0
    counted none =
        let one : times m heap ≡ 1 = h.once m ∙ ap (λ t. cond t 0 1) (ne_eqb (slice_index_or bits m 0) 0 some) in
        cc
