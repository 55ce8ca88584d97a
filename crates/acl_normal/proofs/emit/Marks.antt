-- The keys and bits that are marked as free, by number.
use Rattle.acl_normal.proofs.Common.{Ace, Allow, Bool, ColumnKey, Deny, Equal, FitsKeys, Greater, IsRowOf, Kind, Less, List, Ordering, ap, arith, bit_at-zero, bit_or, cases_eq, cases_lt, compare_keys, cond, false, get_or-replicate, get_or-set_other, get_or-set_same, has_bit, has_bit-or, inl, inr, is_le, is_principal_of, key_eq, key_number, kind_rank, length, length-replicate, length-set, marks, nat_cmp, nothing_left, principal_cmp, principal_exact, principal_order, refl, replicate, row_of, slice_index_or, slice_set, subst, sym, true, ℕ, ◌%◌, ◌&&◌, ◌*◌, ◌+◌, ◌/◌, ◌<◌, ◌==◌, ◌^◌, ◌||◌, ◌∙◌, ◌≡◌, ◌≢◌, ◌≤◌, ◌⊎◌, one_bit}
use Rattle.std.proofs.lemmas.List.{get_or_past}
use Rattle.acl_normal.specs.internal.emit.Ready.{AddsMark, IsKeyNumber}
use Rattle.acl_normal.proofs.unique.Names.{key_eq_itself, key_eq_same}
use Rattle.acl_normal.proofs.unique.Bits.{power_is}
use Rattle.acl_normal.proofs.rows.Rows.{row_below, row_less, row_same}
use Rattle.acl_perm.proofs.Orders.{same_kind}
use Rattle.acl_normal.proofs.rows.RowsAlike.{named_outline, row_outline}

-- ---- numbers of keys

-- the rank of a kind is 0 or 1
pub rank_below : (k : Kind) → kind_rank k < 2
rank_below Deny = omega arith
rank_below Allow = omega arith

-- two keys of principals that the list names have different numbers, unless they are equal
pub number_same : (k l : ColumnKey) (xs : List Ace) → is_principal_of k.0 xs ≡ true → is_principal_of l.0 xs ≡ true
    → key_number k xs ≡ key_number l xs → k ≡ l
number_same k l xs h i e =
    let rows : row_of k.0 xs ≡ row_of l.0 xs = omega (arith, e, rank_below k.1, rank_below l.1) in
    let kinds : kind_rank k.1 ≡ kind_rank l.1 = omega (arith, e, rows) in
    ap (λ v. (v, k.1)) (row_same k.0 l.0 xs h i rows) ∙ ap (λ v. (l.0, v)) (same_kind k.1 l.1 kinds)

-- the number of a key whose principal the list names, below twice the number of its ACEs
pub record IsNumberOf (k : ColumnKey) (xs : List Ace) (number : ℕ) : Type 0 where
  pub below : number < 2 * length xs
  pub named : is_principal_of k.0 (nothing_left xs) ≡ true
  pub is : number ≡ key_number k (nothing_left xs)

-- twice a row and the rank of a kind are the number of a key, whatever the masks are
pub number_at : (k : ColumnKey) (xs : List Ace) (row rank : ℕ) → IsRowOf row k.0 xs → rank ≡ kind_rank k.1
    → IsNumberOf k xs (2 * row + rank)
number_at k xs row rank r is = record {
  below = omega (arith, row_below k.0 xs r.named, r.is, is, rank_below k.1);
  named = named_outline k.0 xs ∙ r.named;
  is = omega (arith, r.is, is, row_outline k.0 xs);
}

-- half of a number is the row
pub number_row : (k : ColumnKey) (xs : List Ace) (n : ℕ) → n ≡ key_number k xs → n / 2 ≡ row_of k.0 xs
number_row k xs n is = omega (arith, is, rank_below k.1)

-- the remainder of the number of a key by two is the rank of its kind
pub number_rank : (k : ColumnKey) (xs : List Ace) (n : ℕ) → n ≡ key_number k xs → n % 2 ≡ kind_rank k.1
number_rank k xs n is = omega (arith, is, rank_below k.1)

-- a key whose number is at most that of another is at most that key
pub number_order : (k l : ColumnKey) (xs : List Ace) → is_principal_of k.0 xs ≡ true → is_principal_of l.0 xs ≡ true
    → key_number k xs ≤ key_number l xs → is_le (compare_keys k l) ≡ true
number_order k l xs h i le = go (principal_cmp k.0 l.0) (principal_cmp l.0 k.0) refl refl
  where
    kinds : (j m : Kind) → kind_rank j ≤ kind_rank m → is_le (nat_cmp (kind_rank j) (kind_rank m)) ≡ true
    kinds Deny m h = go m
      where
        go : (m : Kind) → is_le (nat_cmp (kind_rank Deny) (kind_rank m)) ≡ true
        go Deny = refl
        go Allow = refl
    kinds Allow Allow h = refl
    kinds Allow Deny h = absurd (omega (arith, h))

    go : (o w : Ordering) → principal_cmp k.0 l.0 ≡ o → principal_cmp l.0 k.0 ≡ w → is_le (compare_keys k l) ≡ true
    go Less w e f = rw e refl
    go Equal w e f =
        let rows : row_of k.0 xs ≡ row_of l.0 xs = ap (λ p. row_of p xs) (principal_exact k.0 l.0 e) in
        rw e (kinds k.1 l.1 (omega (arith, le, rows)))
    go Greater Less e f =
        absurd (omega (arith, le, row_less l.0 k.0 xs i f, rank_below k.1, rank_below l.1))
    go Greater Equal e f =
        let turned = principal_order.reversed k.0 l.0 in
        absurd (cc)
    go Greater Greater e f =
        let turned = principal_order.reversed k.0 l.0 in
        absurd (cc)

-- ---- what is marked

-- the marked bits of a key whose principal is named are those at its number
pub mark_named : (k : ColumnKey) (xs : List Ace) (bits : List ℕ) → is_principal_of k.0 xs ≡ true
    → marks xs bits k ≡ slice_index_or bits (key_number k xs) 0
mark_named k xs bits h = rw h refl

-- if bits are written at the number of a key, they are marked at that key and no other changes
pub mark_written : (xs : List Ace) (old new : List ℕ) (n v : ℕ) (k l : ColumnKey) → is_principal_of k.0 xs ≡ true
    → n ≡ key_number k xs → n < length old → new ≡ slice_set old n v
    → marks xs new l ≡ cond (key_eq l k) v (marks xs old l)
mark_written xs old new n v k l named is within set = go (is_principal_of l.0 xs) refl (key_eq l k) refl
  where
    go : (s : Bool) → is_principal_of l.0 xs ≡ s → (t : Bool) → key_eq l k ≡ t
        → marks xs new l ≡ cond (key_eq l k) v (marks xs old l)
    go s e true f =
        let same : k ≡ l = sym (key_eq_same l k f) in
        let here : n ≡ key_number l xs = is ∙ ap (λ w. key_number w xs) same in
        let its : is_principal_of l.0 xs ≡ true = ap (λ (w : ColumnKey). is_principal_of w.0 xs) (sym same) ∙ named in
        rw f (mark_named l xs new its ∙ ap (λ w. slice_index_or w (key_number l xs) 0) set
        ∙ ap (λ w. slice_index_or (slice_set old n v) w 0) (sym here) ∙ get_or-set_same old n v 0 within)
    go true e false f =
        rw f (mark_named l xs new e ∙ ap (λ w. slice_index_or w (key_number l xs) 0) set
        ∙ get_or-set_other old n (key_number l xs) v 0 (λ same. apart same) ∙ sym (mark_named l xs old e))
      where
        apart : key_number l xs ≡ n → ⊥
        apart same =
            let one : l ≡ k = number_same l k xs e named (same ∙ is) in
            let equal : key_eq l k ≡ true = ap (key_eq l) (sym one) ∙ key_eq_itself l in
            cc
    go false e false f = rw (f, e) refl

-- bits stay fit when some are written at the number of a key
pub fits_written : (xs : List Ace) (old new : List ℕ) (n v : ℕ) → FitsKeys xs old → IsKeyNumber xs n
    → new ≡ slice_set old n v → FitsKeys xs new
fits_written xs old new n v f k set = record {
  count = ap length set ∙ length-set old n v ∙ f.count;
  sound = λ m some. go m some (cases_eq m n);
}
  where
    go : (m : ℕ) → slice_index_or new m 0 ≢ 0 → (m ≡ n) ⊎ (m ≡ n → ⊥) → IsKeyNumber xs m
    go m some (inl e) = subst (IsKeyNumber xs) (sym e) k
    go m some (inr d) =
        f.sound m (λ none. some (ap (λ w. slice_index_or w m 0) set ∙ get_or-set_other old n m v 0 d ∙ none))

-- a number that has bits is within the list of bits
pub number_within : (bits : List ℕ) (n : ℕ) → slice_index_or bits n 0 ≢ 0 → n < length bits
number_within bits n some = go (cases_lt n (length bits))
  where
    go : (n < length bits) ⊎ (length bits ≤ n) → n < length bits
    go (inl l) = l
    go (inr l) = absurd (some (get_or_past bits n 0 l))

-- a list of zeros is zero at each number
pub zero_at : (count n : ℕ) → slice_index_or {A = ℕ} (replicate count 0) n 0 ≡ 0
zero_at count n = go (cases_lt n count)
  where
    go : (n < count) ⊎ (count ≤ n) → slice_index_or {A = ℕ} (replicate count 0) n 0 ≡ 0
    go (inl l) = get_or-replicate count n 0 0 l
    go (inr l) = get_or_past (replicate count 0) n 0 (omega (arith, l, length-replicate {A = ℕ} count 0))

-- a list of zeros with a number for each key is fit
pub fits_zeros : (xs : List Ace) (count : ℕ) → count ≡ 2 * length xs → FitsKeys xs (replicate count 0)
fits_zeros xs count is = record {
  count = length-replicate count 0 ∙ is;
  sound = λ n some. absurd (some (zero_at count n));
}

-- if each number has no bits, no key is marked
pub nothing_marked : (xs : List Ace) (bits : List ℕ) → ((n : ℕ) → slice_index_or bits n 0 ≡ 0) → (k : ColumnKey)
    → marks xs bits k ≡ 0
nothing_marked xs bits none k = go (is_principal_of k.0 xs) refl
  where
    go : (t : Bool) → is_principal_of k.0 xs ≡ t → marks xs bits k ≡ 0
    go true e = rw e (none (key_number k xs))
    go false e = rw e refl

-- if a bit is added at the number of a key, it is marked at that key
pub bit_added : (xs : List Ace) (old new : List ℕ) (n bit : ℕ) (k : ColumnKey) → is_principal_of k.0 xs ≡ true
    → n ≡ key_number k xs → n < length old
    → new ≡ slice_set old n (bit_or (slice_index_or old n 0) (2 ^ bit)) → AddsMark k bit (marks xs old) (marks xs new)
bit_added xs old new n bit k named is within set = record {
  bits =
      λ l b. ap (λ v. has_bit v b)
      (mark_written xs old new n (bit_or (slice_index_or old n 0) (2 ^ bit)) k l named is within set)
      ∙ go l b (key_eq l k) refl;
}
  where
    was : marks xs old k ≡ slice_index_or old n 0
    was = mark_named k xs old named ∙ ap (λ v. slice_index_or old v 0) (sym is)

    other : (t : Bool) → t ≡ (t || false)
    other true = refl
    other false = refl

    go : (l : ColumnKey) (b : ℕ) (t : Bool) → key_eq l k ≡ t
        → has_bit (cond (key_eq l k) (bit_or (slice_index_or old n 0) (2 ^ bit)) (marks xs old l)) b
        ≡ (has_bit (marks xs old l) b || (key_eq l k && (b == bit)))
    go l b true e =
        let mine : marks xs old l ≡ slice_index_or old n 0 = ap (marks xs old) (key_eq_same l k e) ∙ was in
        rw (e, mine) (has_bit-or (slice_index_or old n 0) (2 ^ bit) b
        ∙ ap (λ v. has_bit (slice_index_or old n 0) b || v) (power_is bit b))
    go l b false e = rw e (other (has_bit (marks xs old l) b))

-- a mask that has a bit is not zero
pub some_bits : (m b : ℕ) → has_bit m b ≡ true → m ≢ 0
some_bits m b h zero =
    let none : has_bit m b ≡ false = ap (λ v. has_bit v b) zero ∙ ap (λ v. v == 1) (bit_at-zero b) in
    cc

-- a mask to which a bit is added is not zero
pub added_some : (m bit : ℕ) → bit_or m (2 ^ bit) ≢ 0
added_some m bit =
    some_bits (bit_or m (2 ^ bit)) bit (has_bit-or m (2 ^ bit) bit ∙ rw (one_bit bit) (right (has_bit m bit)))
  where
    right : (t : Bool) → (t || true) ≡ true
    right true = refl
    right false = refl
