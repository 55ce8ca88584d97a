-- Which ACE comes first: of those that are free somewhere, the one with the least key.
use Rattle.std.proofs.Common.{Bool, List, [], false, refl, true, ℕ, ◌++◌, ◌∷◌, ◌≡◌}
use Rattle.acl_normal.proofs.Common.{Ace, AllByRecursion, Column, ColumnKey, HasEmptyColumns, Less, None, Option, Ordering, Some, ace_key, ap, arith, column, compare_keys, false≢true, is_free, is_le, key_order, key_record, ordering_reverse, subst, sym, ◌∙◌}
use Rattle.acl_normal.specs.internal.Best.{AreNowhereFree, Best, IsBelow, IsCandidate, IsLeastCandidate, IsNowhereFree, lesser}
use Rattle.acl_normal.specs.internal.emit.Short.{IsFirstLeft}
use Rattle.acl_normal.proofs.Each.{all_append, all_weaker}
use Rattle.acl_normal.proofs.unique.Candidates.{lt_le}
use Rattle.acl_normal.proofs.unique.Free.{free_among, head_is_free}
use Rattle.acl_normal.proofs.unique.Keys.{key_itself}

-- if no key of an ACE is free, no bit has a key
none_free : (xs : List Ace) → AreNowhereFree xs xs → HasEmptyColumns xs
none_free xs h bit = go (column xs bit) refl
  where
    go : (c : Column) → column xs bit ≡ c → column xs bit ≡ []
    go [] e = e
    go (f ∷ c) e =
        let free : is_free (column xs bit) f ≡ true = rw e (head_is_free f c) in
        absurd (false≢true (sym (free_among (λ e. (bit : ℕ) → is_free (column xs bit) e ≡ false) xs bit f h free bit)
        ∙ free))

-- an ACE that is below each free ACE is below each free key
least_free : (xs : List Ace) (a : Ace) → AllByRecursion (IsBelow xs a) xs → (e : ColumnKey) (bit : ℕ)
    → is_free (column xs bit) e ≡ true → is_le (compare_keys (ace_key a) e) ≡ true
least_free xs a h e bit free =
    free_among (λ e. (bit : ℕ) → is_free (column xs bit) e ≡ true → is_le (compare_keys (ace_key a) e) ≡ true)
    xs bit e h free bit free

-- the best of all ACEs of a list comes first
pub best_first : (xs : List Ace) (o : Option Ace) → Best xs xs o → IsFirstLeft xs o
best_first xs None none = none_free xs none
best_first xs (Some a) h = record {
  flags = h.candidate.flags;
  mask = h.candidate.mask;
  least = least_free xs a h.below;
  all = h.candidate.all;
}

-- ---- the better of two

-- if a key is not at most another, the other is less
le_turned : (e f : ColumnKey) → is_le (compare_keys e f) ≡ false → compare_keys f e ≡ Less
le_turned e f h = key_order.reversed (key_record e) (key_record f) ∙ turned (compare_keys e f) h
  where
    turned : (o : Ordering) → is_le o ≡ false → ordering_reverse o ≡ Less
    turned o i = grind arith

-- one more ACE that is free nowhere changes nothing
pub best_past : (list seen : List Ace) (item : Ace) (best : Option Ace) → Best list seen best
    → IsNowhereFree list item → Best list (seen ++ item ∷ []) best
best_past list seen item None h none = all_append (IsNowhereFree list) seen (item ∷ []) h (none, tt)
best_past list seen item (Some a) h none = record {
  candidate = h.candidate;
  below = all_append (IsBelow list a) seen (item ∷ []) h.below
      (λ bit free. absurd (false≢true (sym (none bit) ∙ free)), tt);
}

-- with one more ACE, the lesser of its candidate and the best so far is the best
pub best_with : (list seen : List Ace) (item next : Ace) (best : Option Ace) → Best list seen best
    → IsCandidate list next → ace_key next ≡ ace_key item
    → IsLeastCandidate list (seen ++ item ∷ []) (lesser best next)
best_with list seen item next None h candidate key = record {
  candidate = candidate;
  below = all_append (IsBelow list next) seen (item ∷ [])
      (all_weaker (IsNowhereFree list) (IsBelow list next) seen
      (λ x none bit free. absurd (false≢true (sym (none bit) ∙ free))) h) (
        λ bit free. subst (λ e. is_le (compare_keys (ace_key next) e) ≡ true) key
            (ap is_le (key_itself (ace_key next))),
        tt,
      );
}
best_with list seen item next (Some a) h candidate key =
    go (is_le (compare_keys (ace_key a) (ace_key next))) refl
  where
    go : (t : Bool) → is_le (compare_keys (ace_key a) (ace_key next)) ≡ t
        → IsLeastCandidate list (seen ++ item ∷ []) (lesser (Some a) next)
    go true e = rw e (record {
      candidate = h.candidate;
      below = all_append (IsBelow list a) seen (item ∷ []) h.below
          (λ bit free. subst (λ f. is_le (compare_keys (ace_key a) f) ≡ true) key e, tt);
    })
    go false e = rw e (record {
      candidate = candidate;
      below = all_append (IsBelow list next) seen (item ∷ [])
          (all_weaker (IsBelow list a) (IsBelow list next) seen
          (λ x under bit free. lt_le (ace_key next) (ace_key a) (ace_key x)
          (le_turned (ace_key a) (ace_key next) e) (under bit free)) h.below) (
            λ bit free. subst (λ f. is_le (compare_keys (ace_key next) f) ≡ true) key
                (ap is_le (key_itself (ace_key next))),
            tt,
          );
    })
