-- Which keys are free, by what comes first.
use Rattle.acl_normal.proofs.Common.{Ace, AllByRecursion, Bool, Column, ColumnKey, IsAlike, IsOnce, Kind, List, None, Principal, Some, [], ace_key, and_from, and_parts, ap, arith, column, conflicts, counts, false, first_kind, is_either, is_free, kind_eq, may_overlap, not, or_cases, or_left, principal_eq, principal_of, refl, same_answers, subst, sym, true, ℕ, ⊎_elim, ◌&&◌, ◌∙◌, ◌∷◌, ◌≡◌}
use Rattle.acl_normal.proofs.unique.Names.{kind_eq_itself, kind_eq_same, overlaps_back, overlaps_itself, principal_eq_itself, principal_eq_same}
use Rattle.acl_normal.proofs.unique.Irreducible.{second_alone, alone_first, either_is, lacks_same}
pub use Rattle.acl_normal.proofs.unique.Irreducible.{once_from_clean}
use Rattle.acl_normal.proofs.unique.Columns.{column_has, column_lacks}

-- of the principal and each that overlaps with it, the first has the given kind
abbrev pub IsAhead : Column → Principal → Kind → Type 0
IsAhead c p k = (q : Principal) → may_overlap p q ≡ true → first_kind (is_either p q) c ≡ Some k

-- keys that overlap and do not conflict have one kind
pub no_conflict : (z p : Principal) (j k : Kind) → may_overlap z p ≡ true → not (conflicts (z, j) (p, k)) ≡ true → j ≡ k
no_conflict z p j k o n = grind (arith, kind_eq_same)

-- a free key comes ahead after one key in front, if it does in the rest
ahead_step : (c : Column) (p q z : Principal) (k j : Kind) → may_overlap p q ≡ true
    → is_free ((z, j) ∷ c) (p, k) ≡ true → (is_free c (p, k) ≡ true → first_kind (is_either p q) c ≡ Some k)
    → first_kind (is_either p q) ((z, j) ∷ c) ≡ Some k
ahead_step c p q z k j o h rest =
    grind (arith, either_is p q z, kind_eq_same j k, overlaps_itself p, overlaps_back p q o)

-- a free key comes ahead of what overlaps it
pub ahead_from_free : (c : Column) (p : Principal) (k : Kind) → is_free c (p, k) ≡ true → IsAhead c p k
ahead_from_free [] p k h = cc
ahead_from_free ((z, j) ∷ c) p k h = λ q o. ahead_step c p q z k j o h (λ free. ahead_from_free c p k free q o)

-- a key that comes ahead is free after one key in front, if it is free in the rest
free_step : (c : Column) (p z : Principal) (k j : Kind) → first_kind (is_either p p) ((z, j) ∷ c) ≡ Some k
    → (may_overlap z p ≡ true → first_kind (is_either p z) ((z, j) ∷ c) ≡ Some k)
    → (principal_eq z p ≡ false → is_free c (p, k) ≡ true) → is_free ((z, j) ∷ c) (p, k) ≡ true
free_step c p z k j own over rest = grind (arith, principal_eq_itself z, kind_eq_itself k)

-- a key that comes ahead of what overlaps it is free, in a column without repetition
free_from_ahead : (c : Column) (p : Principal) (k : Kind) → IsOnce c → IsAhead c p k → is_free c (p, k) ≡ true
free_from_ahead [] p k once ahead = cc (ahead p (overlaps_itself p))
free_from_ahead ((z, j) ∷ c) p k once ahead =
    free_step c p z k j (ahead p (overlaps_itself p)) (λ o. ahead z (overlaps_back z p o))
    (λ e. free_from_ahead c p k once.1 (rest e))
  where
    rest : principal_eq z p ≡ false → IsAhead c p k
    rest e q o =
        grind (arith, ahead q o, ahead p (overlaps_itself p), lacks_same z q c once.0, alone_first p q c)

-- alike columns without repetition have the same free keys
pub same_free : (c d : Column) (k : ColumnKey) → IsOnce c → IsOnce d → IsAlike c d → is_free c k ≡ is_free d k
same_free c d k oc od a =
    same_answers (is_free c k) (is_free d k)
    (λ h. free_from_ahead d k.0 k.1 od (λ q o. sym (a k.0 q o) ∙ ahead_from_free c k.0 k.1 h q o))
    (λ h. free_from_ahead c k.0 k.1 oc (λ q o. a k.0 q o ∙ ahead_from_free d k.0 k.1 h q o))

-- a test that the first key fails continues after this key
pub skip_head : (m : Principal → Bool) (p : Principal) (k : Kind) (c : Column) → m p ≡ false
    → first_kind m ((p, k) ∷ c) ≡ first_kind m c
skip_head m p k c h = rw h refl

-- columns that lack a principal are alike if they agree on each two others that overlap
pub alike_lacking : (p : Principal) (c d : Column) → first_kind (is_either p p) c ≡ None
    → first_kind (is_either p p) d ≡ None → ((x y : Principal) → may_overlap x y ≡ true → is_either x y p ≡ false
    → first_kind (is_either x y) c ≡ first_kind (is_either x y) d) → IsAlike c d
alike_lacking p c d nc nd same x y o =
    grind (
      arith,
      same x y o,
      same x x (overlaps_itself x),
      same y y (overlaps_itself y),
      second_alone x y c,
      second_alone x y d,
      alone_first x y c,
      alone_first x y d,
      lacks_same p x c nc,
      lacks_same p x d nd,
      lacks_same p y c nc,
      lacks_same p y d nd,
    )

-- alike columns with the same head have alike rests
pub alike_rest : (p : Principal) (k : Kind) (c d : Column) → first_kind (is_either p p) c ≡ None
    → first_kind (is_either p p) d ≡ None → IsAlike ((p, k) ∷ c) ((p, k) ∷ d) → IsAlike c d
alike_rest p k c d nc nd a =
    alike_lacking p c d nc nd (λ x y o away. sym (skip_head (is_either x y) p k c away) ∙ a x y o
    ∙ skip_head (is_either x y) p k d away)

-- ---- keys that are free are keys of the list

-- what holds of the key of each ACE holds of each key that is free in a column of the list
pub free_among : (P : ColumnKey → Type 0) (xs : List Ace) (bit : ℕ) (e : ColumnKey)
    → AllByRecursion (λ x. P (ace_key x)) xs → is_free (column xs bit) e ≡ true → P e
free_among P [] bit e h free = absurd cc
free_among P (x ∷ xs) bit e h free = go (counts bit x) refl (free_among P xs bit e h.1)
  where
    here : is_free (ace_key x ∷ column xs bit) e ≡ true → (is_free (column xs bit) e ≡ true → P e) → P e
    here found ih = ⊎_elim
        (λ both.
        let parts = and_parts (principal_eq (principal_of x) e.0) (kind_eq x.kind e.1) both in
        let p = principal_eq_same (principal_of x) e.0 parts.0 in
        let k = kind_eq_same x.kind e.1 parts.1 in
        subst P (λ i. (p i, k i)) h.0)
        (λ both. ih (and_parts (not (conflicts (ace_key x) e)) (is_free (column xs bit) e) both).1)
        (or_cases (principal_eq (principal_of x) e.0 && kind_eq x.kind e.1)
        (not (conflicts (ace_key x) e) && is_free (column xs bit) e) found)

    go : (t : Bool) → counts bit x ≡ t → (is_free (column xs bit) e ≡ true → P e) → P e
    go true f ih = here (sym (ap (λ c. is_free c e) (column_has bit x xs f)) ∙ free) ih
    go false f ih = ih (sym (ap (λ c. is_free c e) (column_lacks bit x xs f)) ∙ free)

-- the first key of a column is free
pub head_is_free : (k : ColumnKey) (c : Column) → is_free (k ∷ c) k ≡ true
head_is_free k c = or_left _ _ (and_from (principal_eq k.0 k.0) _ (principal_eq_itself k.0) (kind_eq_itself k.1))
