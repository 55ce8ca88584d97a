-- Where a list first mentions each principal.
use Rattle.acl_normal.proofs.Common.{[], Ace, ace, AceRef, aces_in, ap, AreFirstFrom, AreWhoms, arith, Bool, cases_eq, cases_lt, cond, drop, drop_all, drop_more, eq-eqb, Everyone, everyone, false, first_place, get_or-map, get_or-replicate, get_or-set_other, get_or-set_same, has_bit, inl, inr, is_allow, is_granted_to, IsWhom, length, length-map, length-replicate, length-set, List, ne_eqb, no_ace, Nobody, One, Principal, refl, replicate, slice_index_or, slice_set, subst, sym, true, Whom, ℕ, ◌&&◌, ◌+◌, ◌<◌, ◌∙◌, ◌∷◌, ◌≡◌, ◌≤◌, ◌⊎◌}
use Rattle.std.proofs.lemmas.List.{get_or_past}
use Rattle.acl_normal.proofs.Each.{zip_at, zip_length}
use Rattle.acl_normal.proofs.comparison.SetEvaluation.{granted_to-cons}
use Rattle.acl_normal.specs.internal.comparison.FirstPlaces.{IsFirstFrom, IsWhomWithin, is_of, no_first, put, stops, stops_at}
use Rattle.acl_normal.specs.declared.comparison.placing.First.{First}

-- as many are named as there are ACEs
pub whoms_length : (ps : List Principal) (aces : List AceRef) (ws : List Whom) → AreWhoms ps (aces_in aces) ws
    → length ws ≡ length aces
whoms_length ps aces ws z = zip_length (IsWhom ps) (aces_in aces) ws z ∙ length-map aces ace

-- the value at a place says whom the ACE there names
pub whom_at : (ps : List Principal) (xs : List Ace) (ws : List Whom) (i : ℕ) → i < length xs → AreWhoms ps xs ws
    → IsWhom ps (slice_index_or xs i no_ace) (slice_index_or ws i Nobody)
whom_at ps xs ws i lt z = zip_at (IsWhom ps) xs ws i no_ace Nobody lt z

-- the ACE at a place decides if it has the bit and is of the principal, and else the ACEs after it do
first_cons : (xs : List Ace) (a : Ace) (b i : ℕ) (p : Principal) → drop i xs ≡ a ∷ drop (i + 1) xs
    → (first_place (p ∷ []) b (drop i xs)
    ≡ cond (has_bit a.mask b && is_of a p) 0 (first_place (p ∷ []) b (drop (i + 1) xs) + 1))
    × (is_granted_to (drop i xs) (p ∷ []) b
    ≡ cond (has_bit a.mask b && is_of a p) (is_allow a.kind) (is_granted_to (drop (i + 1) xs) (p ∷ []) b))
first_cons xs a b i p is = (
  ap (first_place (p ∷ []) b) is ∙ grind arith,
  ap (λ v. is_granted_to v (p ∷ []) b) is ∙ granted_to-cons a (drop (i + 1) xs) (p ∷ []) b ∙ grind arith,
)

-- an ACE that has the bit and is of the principal is the first from its place on
first_taken : (xs : List Ace) (a : Ace) (b i : ℕ) (p : Principal) → drop i xs ≡ a ∷ drop (i + 1) xs
    → (has_bit a.mask b && is_of a p) ≡ true → IsFirstFrom xs b i p (record { place = i; kind = a.kind })
first_taken xs a b i p is h =
    let said = first_cons xs a b i p is in
    let here : first_place (p ∷ []) b (drop i xs) ≡ 0 = said.0 ∙ rw h refl in
    record { place = omega (arith, here); allows = sym (said.1 ∙ rw h refl) }

-- an ACE that lacks the bit or is not of the principal leaves the first of the later ones
first_kept : (xs : List Ace) (a : Ace) (b i : ℕ) (p : Principal) (f : First) → drop i xs ≡ a ∷ drop (i + 1) xs
    → (has_bit a.mask b && is_of a p) ≡ false → IsFirstFrom xs b (i + 1) p f → IsFirstFrom xs b i p f
first_kept xs a b i p f is h later =
    let said = first_cons xs a b i p is in
    let here : first_place (p ∷ []) b (drop i xs) ≡ first_place (p ∷ []) b (drop (i + 1) xs) + 1 =
    said.0 ∙ rw h refl in
    record { place = omega (arith, here, later.place); allows = later.allows ∙ sym (said.1 ∙ rw h refl) }

-- the first ACE of everyone with the bit, or the end of the list, is what each principal has from there on
pub first_end : (ps : List Principal) (xs : List Ace) (ws : List Whom) (b e k : ℕ) → k < length ps → e ≤ length xs
    → (e < length xs → stops_at xs ws b e ≡ true) → AreWhoms ps xs ws
    → IsFirstFrom xs b e (slice_index_or ps k everyone)
    (record { place = e; kind = (slice_index_or xs e no_ace).kind })
first_end ps xs ws b e k lk le stop all = go (cases_lt e (length xs))
  where
    at : (a : Ace) (w : Whom) → stops b a w ≡ true → IsWhom ps a w
        → (has_bit a.mask b && is_of a (slice_index_or ps k everyone)) ≡ true
    at a Everyone s h = rw (s, h.hit k lk) refl
    at a _ s h = cc

    go : (e < length xs) ⊎ (length xs ≤ e)
        → IsFirstFrom xs b e (slice_index_or ps k everyone)
        (record { place = e; kind = (slice_index_or xs e no_ace).kind })
    go (inl lt) = first_taken xs (slice_index_or xs e no_ace) b e (slice_index_or ps k everyone)
        (drop_more xs e no_ace lt) (at _ _ (stop lt) (whom_at ps xs ws e lt all))
    go (inr past) =
        let none : first_place (slice_index_or ps k everyone ∷ []) b (drop e xs) ≡ 0 =
        ap (first_place (slice_index_or ps k everyone ∷ []) b) (drop_all e xs past) in
        record {
          place = omega arith;
          allows = ap (λ a. is_allow a.kind) (get_or_past xs e no_ace past)
              ∙ sym (ap (λ v. is_granted_to v (slice_index_or ps k everyone ∷ []) b) (drop_all e xs past));
        }

-- at the place where the walk begins, each principal has that place as its first
pub firsts_start : {ps : List Principal} {xs : List Ace} (ws : List Whom) {b e : ℕ} {firsts : List First} {f : First}
    {n : ℕ} → firsts ≡ replicate n f → n ≡ length ps → f.place ≡ e
    → f.kind ≡ (slice_index_or xs e no_ace).kind → e ≤ length xs
    → (e < length xs → stops_at xs ws b e ≡ true) → AreWhoms ps xs ws → AreFirstFrom ps xs b e firsts
firsts_start {ps} {xs} ws {b} {e} {firsts} {f} {n} is count fp fa le stop all = record {
  count = ap length is ∙ length-replicate n f ∙ count;
  each = λ k lt. let h = first_end ps xs ws b e k lt le stop all in at k lt h.place h.allows;
}
  where
    value : (k : ℕ) → k < length ps → slice_index_or firsts k no_first ≡ f
    value k lt = ap (λ v. slice_index_or v k no_first) is ∙ get_or-replicate n k f no_first (omega arith)

    at : (k : ℕ) → k < length ps → e ≡ first_place (slice_index_or ps k everyone ∷ []) b (drop e xs) + e
        → is_allow (slice_index_or xs e no_ace).kind ≡ is_granted_to (drop e xs) (slice_index_or ps k everyone ∷ []) b
        → IsFirstFrom xs b e (slice_index_or ps k everyone) (slice_index_or firsts k no_first)
    at k lt p a = record {
      place = ap (λ v. v.place) (value k lt) ∙ fp ∙ p;
      allows =
          ap (λ v. is_allow v.kind) (value k lt) ∙ ap is_allow fa ∙ a;
    }

-- with an ACE that has the bit at its principal's number, each principal has its first from one place earlier
put_at : (ps : List Principal) (xs : List Ace) (a : Ace) (j b i : ℕ) (old : List First)
    → drop i xs ≡ a ∷ drop (i + 1) xs → IsWhom ps a (One j) → AreFirstFrom ps xs b (i + 1) old
    → has_bit a.mask b ≡ true → (k : ℕ) → k < length ps → (k ≡ j) ⊎ (k ≡ j → ⊥)
    → IsFirstFrom xs b i (slice_index_or ps k everyone)
    (slice_index_or (slice_set old j (record { place = i; kind = a.kind })) k no_first)
put_at ps xs a j b i old is h later e k lt (inl same) =
    let new : First = record { place = i; kind = a.kind } in
    let inside : j < length old = omega (arith, later.count) in
    let value : slice_index_or (slice_set old j new) k no_first ≡ new =
    ap (λ v. slice_index_or (slice_set old j new) v no_first) same
    ∙ get_or-set_same old j new no_first inside in
    subst (λ v. IsFirstFrom xs b i (slice_index_or ps k everyone) v) (sym value)
    (first_taken xs a b i (slice_index_or ps k everyone) is (rw (e, h.hit k lt) (eq-eqb k j same)))
put_at ps xs a j b i old is h later e k lt (inr other) =
    subst (λ v. IsFirstFrom xs b i (slice_index_or ps k everyone) v)
    (sym (get_or-set_other old j k (record { place = i; kind = a.kind }) no_first other))
    (first_kept xs a b i (slice_index_or ps k everyone) (slice_index_or old k no_first) is
    (rw (e, h.hit k lt) (ne_eqb k j other)) (later.each k lt))

-- one place earlier, each principal has its first when the ACE there was put in
pub firsts_step : (ps : List Principal) (xs : List Ace) (a : Ace) (w : Whom) (b i : ℕ) (old : List First)
    → drop i xs ≡ a ∷ drop (i + 1) xs → stops b a w ≡ false → IsWhom ps a w → AreFirstFrom ps xs b (i + 1) old
    → AreFirstFrom ps xs b i (put old a w i b)
firsts_step ps xs a Nobody b i old is s h later =
    record {
      count = later.count;
      each =
          λ k lt. first_kept xs a b i (slice_index_or ps k everyone) (slice_index_or old k no_first) is
          (rw (h.hit k lt) (none (has_bit a.mask b))) (later.each k lt);
    }
  where
    none : (x : Bool) → (x && false) ≡ false
    none x = grind arith
firsts_step ps xs a Everyone b i old is s h later =
    record {
      count = later.count;
      each =
          λ k lt. first_kept xs a b i (slice_index_or ps k everyone) (slice_index_or old k no_first) is (rw s refl)
          (later.each k lt);
    }
firsts_step ps xs a (One j) b i old is s h later = go (has_bit a.mask b) refl
  where
    new : First
    new = record { place = i; kind = a.kind }

    go : (t : Bool) → has_bit a.mask b ≡ t → AreFirstFrom ps xs b i (put old a (One j) i b)
    go true e = rw e (record {
      count = length-set old j new ∙ later.count;
      each = λ k lt. put_at ps xs a j b i old is h later e k lt (cases_eq k j);
    })
    go false e = rw e (record {
      count = later.count;
      each =
          λ k lt. first_kept xs a b i (slice_index_or ps k everyone) (slice_index_or old k no_first) is (rw e refl)
          (later.each k lt);
    })

-- a turn of the loop, which goes back, makes the first places from one place earlier
pub firsts_more : {ps : List Principal} (aces : List AceRef) {d : AceRef} (ws : List Whom) {b e n i : ℕ}
    {old new : List First} → n ≡ i + 1 → n ≤ e → e ≤ length aces
    → ((k : ℕ) → k < e → stops_at (aces_in aces) ws b k ≡ false) → AreWhoms ps (aces_in aces) ws
    → d ≡ slice_index_or aces i d → new ≡ put old (ace d) (slice_index_or ws i Nobody) i b
    → AreFirstFrom ps (aces_in aces) b n old → AreFirstFrom ps (aces_in aces) b i new
firsts_more {ps} aces {d} ws {b} {e} {n} {i} {old} {new} next le within stops all at given later =
    let is : new ≡ put old (ace (slice_index_or aces i d)) (slice_index_or ws i Nobody) i b =
    subst (λ v. new ≡ put old (ace v) (slice_index_or ws i Nobody) i b) at given in
    let lt : i < length (aces_in aces) = omega (arith, length-map aces ace) in
    let same : slice_index_or (aces_in aces) i no_ace ≡ ace (slice_index_or aces i d) =
    get_or-map ace aces i d no_ace (omega arith) in
    subst (λ v. AreFirstFrom ps (aces_in aces) b i v)
    (sym (is ∙ ap (λ v. put old v (slice_index_or ws i Nobody) i b) (sym same)))
    (firsts_step ps (aces_in aces) (slice_index_or (aces_in aces) i no_ace) (slice_index_or ws i Nobody) b i old
    (drop_more (aces_in aces) i no_ace lt) (stops i (omega arith)) (whom_at ps (aces_in aces) ws i lt all)
    (subst (λ v. AreFirstFrom ps (aces_in aces) b v old) next later))

-- the number that an ACE names is one of a principal
pub whom_within : (ps : List Principal) (aces : List AceRef) (ws : List Whom) {i n : ℕ} → i < length aces
    → n ≡ length ps → AreWhoms ps (aces_in aces) ws → IsWhomWithin (slice_index_or ws i Nobody) n
whom_within ps aces ws {i} lt e all =
    subst (λ v. IsWhomWithin (slice_index_or ws i Nobody) v) (sym e)
    (whom_at ps (aces_in aces) ws i (omega (arith, length-map aces ace)) all).within
