-- A short list: what is left of it, turn by turn.
use Rattle.acl_normal.proofs.Common.{Ace, AceRef, AreRowNumbers, Bool, IsAlike, IsEmission, IsNormalFormOf, IsReducedOf, ace, aces_in, is_principal_of, Emitted, Equal, Greater, IsDifference, IsMask, IsMask-lt, IsRowOf, IsStep, Less, List, Mask, Ordering, Principal, [], ace_key, ap, arith, bits_from_mask, cases_eq, column, compare_keys, cond, count_left, drop, drop_more, emitted_ace, emitted_aces, false, flags_for, get_or-set_other, get_or-set_same, has_bit, inl, inr, is_inherit_only, kind_rank, length, length-set, map-append, nat_cmp, nat_cmp_is, ordering_reverse, plain_key, principal, principal_cmp, principal_eq, principal_exact, principal_of, principal_order, refl, row_of, slice_index_or, slice_set, subst, sym, take, take_all, take_more, take_out, true, without_bits, without_principal, ℕ, ◌++◌, ◌+◌, ◌<◌, ◌∙◌, ◌∷◌, ◌≡◌, ◌≢◌, ◌≤◌, ◌⊎◌}
use Rattle.std.specs.Ordering.{ordering_then}
use Rattle.std.proofs.lemmas.List.{drop-set-lt, set-get_or, take_more_set}
use Rattle.acl_perm.proofs.Sets.{some_bit}
use Rattle.acl_normal.proofs.five_forms.Writing.{split_at}
use Rattle.acl_normal.specs.internal.emit.Ready.{emitted}
use Rattle.acl_normal.specs.internal.emit.Rising.{cleared}
use Rattle.acl_normal.proofs.Whoms.{who_is}
use Rattle.acl_normal.proofs.emit.Risen.{shown}
use Rattle.acl_normal.specs.internal.emit.Short.{AreLeftOf, ComesFirst, IsLeftOf}
use Rattle.acl_normal.proofs.emit.KeyNames.{IsNamed, emitted_principal}
use Rattle.acl_normal.proofs.emit.Leaving.{left_normal}
use Rattle.acl_normal.proofs.reduce.FirstMasks.{named_there, row_here}
use Rattle.acl_normal.proofs.rows.ByPlace.{index_is, length_of}
use Rattle.acl_normal.proofs.unique.Taken.{form_of_reduced}
use Rattle.acl_normal.proofs.rows.Rows.{row_less, row_same}
use Rattle.acl_normal.proofs.rows.TakeOut.{column_taken}
use Rattle.acl_normal.proofs.unique.Bits.{below, difference_is}
use Rattle.acl_normal.proofs.unique.Columns.{no_inherit_only}
use Rattle.acl_normal.proofs.unique.Free.{ahead_from_free}
use Rattle.acl_normal.proofs.unique.Names.{overlaps_itself, principal_eq_itself, principal_eq_same}
use Rattle.acl_normal.proofs.unique.Shorter.{without_no_longer, without_shorter}
use Rattle.acl_normal.proofs.unique.Weights.{count_less}

-- ---- keys and rows

-- the flags of what is left are those that its principal needs
pub left_flags : {xs : List Ace} (e : Emitted) → IsLeftOf xs e
    → (emitted_ace e).flags ≡ flags_for (principal_of (emitted_ace e))
left_flags e h = ap flags_for (sym h.named)

-- the key of what is left is the key of its ACE
pub left_key : {xs : List Ace} (e : Emitted) → IsLeftOf xs e → ace_key (emitted_ace e) ≡ plain_key e.key
left_key e h = ap (λ p. (p, e.key.kind)) h.named

-- the rows of two principals are in the order of the principals
row_order : (p q : Principal) (i j : ℕ) (xs : List Ace) → IsRowOf i p xs → IsRowOf j q xs
    → nat_cmp i j ≡ principal_cmp p q
row_order p q i j xs h k = rw (h.is, k.is) (go (principal_cmp p q) refl)
  where
    less : (m n : ℕ) → m < n → nat_cmp m n ≡ Less
    less m n l = sym (nat_cmp_is m n Less l)

    more : (m n : ℕ) → n < m → nat_cmp m n ≡ Greater
    more m n l = sym (nat_cmp_is m n Greater l)

    same : (n : ℕ) → nat_cmp n n ≡ Equal
    same n = sym (nat_cmp_is n n Equal refl)

    go : (o : Ordering) → principal_cmp p q ≡ o → nat_cmp (row_of p xs) (row_of q xs) ≡ o
    go Less e = less (row_of p xs) (row_of q xs) (row_less p q xs h.named e)
    go Equal e =
        ap (λ v. nat_cmp (row_of v xs) (row_of q xs)) (principal_exact p q e) ∙ same (row_of q xs)
    go Greater e =
        more (row_of p xs) (row_of q xs)
        (row_less q p xs k.named (principal_order.reversed p q ∙ ap ordering_reverse e))

-- to compare rows and kinds is to compare keys
pub rows_compare : (e f : Emitted) (xs : List Ace) → IsLeftOf xs e → IsLeftOf xs f
    → ordering_then (nat_cmp e.row f.row) (nat_cmp (kind_rank e.key.kind) (kind_rank f.key.kind))
    ≡ compare_keys (plain_key e.key) (plain_key f.key)
rows_compare e f xs h k =
    ap (λ o. ordering_then o (nat_cmp (kind_rank e.key.kind) (kind_rank f.key.kind)))
    (row_order (principal e.key.principal) (principal f.key.principal) e.row f.row xs h.row k.row)

-- what is left at a place is of the list
pub left_at : (xs : List Ace) (es : List Emitted) (i : ℕ) (e : Emitted) → AreLeftOf xs es → i < length es
    → e ≡ slice_index_or es i e → IsLeftOf xs e
left_at xs es i e each l is = subst (IsLeftOf xs) (sym is) (each i e l)

-- the ACEs up to a place are those before it and the one there
pub seen_more : (es : List Emitted) (i : ℕ) (e : Emitted) → i < length es → e ≡ slice_index_or es i e
    → emitted_aces (take (i + 1) es) ≡ emitted_aces (take i es) ++ emitted_ace e ∷ []
seen_more es i e l is =
    ap emitted_aces (take_more es i e l)
    ∙ map-append emitted_ace (take i es) (slice_index_or es i e ∷ [])
    ∙ ap (λ v. emitted_aces (take i es) ++ emitted_ace v ∷ []) (sym is)

-- the ACEs are those before a place, the one there, and those after it
pub split_there : (es : List Emitted) (i : ℕ) (e : Emitted) → i < length es → e ≡ slice_index_or es i e
    → emitted_aces es ≡ emitted_aces (take i es) ++ emitted_ace e ∷ emitted_aces (drop (i + 1) es)
split_there es i e l is =
    split_at es i e l ∙ ap (λ v. emitted_aces (take i es) ++ emitted_ace v ∷ emitted_aces (drop (i + 1) es)) (sym is)

-- ---- rights that are taken out

-- an ACE of another row keeps its rights
pub other_row : (e gone : Emitted) (xs : List Ace) → IsLeftOf xs e → IsLeftOf xs gone → e.row ≢ gone.row
    → emitted_ace e ≡ without_bits (principal gone.key.principal) gone.mask.bits (emitted_ace e)
other_row e gone xs h k apart = go (principal_eq (principal_of (emitted_ace e)) (principal gone.key.principal)) refl
  where
    go : (t : Bool) → principal_eq (principal_of (emitted_ace e)) (principal gone.key.principal) ≡ t
        → emitted_ace e ≡ without_bits (principal gone.key.principal) gone.mask.bits (emitted_ace e)
    go false s = rw s refl
    go true s =
        let same : principal e.key.principal ≡ principal gone.key.principal =
        sym h.named ∙ principal_eq_same (principal_of (emitted_ace e)) (principal gone.key.principal) s in
        absurd (apart (h.row.is ∙ ap (λ p. row_of p xs) same ∙ sym k.row.is))

-- an ACE of the same row loses the rights
pub same_row : (e left gone : Emitted) (xs : List Ace) → IsLeftOf xs e → IsLeftOf xs gone → e.row ≡ gone.row
    → left.key ≡ e.key → IsDifference e.mask.bits gone.mask.bits left.mask.bits
    → emitted_ace left ≡ without_bits (principal gone.key.principal) gone.mask.bits (emitted_ace e)
same_row e left gone xs h k rows key mask =
    ap (λ v. emitted (plain_key v) left.mask.bits) key
    ∙ ap (emitted (plain_key e.key)) (difference_is e.mask.bits gone.mask.bits mask)
    ∙ rw (own, part) refl
  where
    same : principal e.key.principal ≡ principal gone.key.principal
    same =
        row_same (principal e.key.principal) (principal gone.key.principal) xs h.row.named k.row.named
        (sym h.row.is ∙ rows ∙ k.row.is)

    own : principal_eq (principal_of (emitted_ace e)) (principal gone.key.principal) ≡ true
    own =
        ap (λ p. principal_eq p (principal gone.key.principal)) (h.named ∙ same)
        ∙ principal_eq_itself (principal gone.key.principal)

    part : is_inherit_only (emitted_ace e) ≡ false
    part = no_inherit_only (principal e.key.principal)

-- ---- the loop that takes rights out

-- what is left before a place has lost the rights, and from there on it has not yet
pub record HasTaken (p : Principal) (m : ℕ) (old now : List Emitted) (place : ℕ) : Type 0 where
  pub done : emitted_aces (take place now) ≡ take_out p m (emitted_aces (take place old))
  pub rest : drop place now ≡ drop place old

-- before the first place nothing was taken
pub taken_none : (p : Principal) (m : ℕ) (old : List Emitted) → HasTaken p m old old 0
taken_none p m old = record { done = refl; rest = refl }

-- the next one is as it was
pub taken_here : (p : Principal) (m : ℕ) (old now : List Emitted) (place : ℕ) (d : Emitted) → place < length now
    → length now ≡ length old → HasTaken p m old now place
    → (slice_index_or now place d ≡ slice_index_or old place d) × (drop (place + 1) now ≡ drop (place + 1) old)
taken_here p m old now place d l count h =
    heads (slice_index_or now place d) (slice_index_or old place d) (drop (place + 1) now) (drop (place + 1) old)
    (sym (drop_more now place d l) ∙ h.rest ∙ drop_more old place d (omega (arith, l, count)))
  where
    heads : (x y : Emitted) (xs ys : List Emitted) → x ∷ xs ≡ y ∷ ys → (x ≡ y) × (xs ≡ ys)
    heads x y xs ys h = (cc, cc)

-- the rights are taken from the next one
pub taken_more : (p : Principal) (m : ℕ) (old now : List Emitted) (place : ℕ) (x y : Emitted) → place < length now
    → length now ≡ length old → x ≡ slice_index_or now place x → emitted_ace y ≡ without_bits p m (emitted_ace x)
    → HasTaken p m old now place → HasTaken p m old (slice_set now place y) (place + 1)
taken_more p m old now place x y l count here is h =
    let next = taken_here p m old now place x l count h in
    let below : place < length old = omega (arith, l, count) in record {
      done =
          ap emitted_aces (take_more_set now place y l) ∙ map-append emitted_ace (take place now) (y ∷ [])
          ∙ ap (λ v. v ++ emitted_ace y ∷ []) h.done
          ∙ ap (λ v. take_out p m (emitted_aces (take place old)) ++ v ∷ [])
          (is ∙ ap (λ v. without_bits p m (emitted_ace v)) (here ∙ next.0))
          ∙ sym (map-append (without_bits p m) (emitted_aces (take place old))
          (emitted_ace (slice_index_or old place x) ∷ []))
          ∙ ap (take_out p m) (sym (map-append emitted_ace (take place old) (slice_index_or old place x ∷ [])))
          ∙ ap (λ v. take_out p m (emitted_aces v)) (sym (take_more old place x below));
      rest = drop-set-lt (place + 1) now place y (omega arith) ∙ next.1;
    }

-- an ACE that has none of the rights stays as it is
pub taken_past : (p : Principal) (m : ℕ) (old now : List Emitted) (place : ℕ) (x : Emitted) → place < length now
    → length now ≡ length old → x ≡ slice_index_or now place x → emitted_ace x ≡ without_bits p m (emitted_ace x)
    → HasTaken p m old now place → HasTaken p m old now (place + 1)
taken_past p m old now place x l count here is h =
    subst (λ v. HasTaken p m old v (place + 1)) (ap (slice_set now place) here ∙ set-get_or now place x)
    (taken_more p m old now place x x l count here is h)

-- after the last place the rights were taken from all
pub taken_all : (p : Principal) (m : ℕ) (old now : List Emitted) (place : ℕ) → length now ≤ place
    → length now ≡ length old → HasTaken p m old now place → emitted_aces now ≡ take_out p m (emitted_aces old)
taken_all p m old now place end count h =
    ap emitted_aces (sym (take_all place now end)) ∙ h.done
    ∙ ap (λ v. take_out p m (emitted_aces v)) (take_all place old (omega (arith, end, count)))

-- with another of the list at a place, all are still of the list
pub left_set : (xs : List Ace) (es : List Emitted) (i : ℕ) (e : Emitted) → i < length es → AreLeftOf xs es
    → IsLeftOf xs e → AreLeftOf xs (slice_set es i e)
left_set xs es i e l each own = λ k d m. at k d (omega (arith, m, length-set es i e)) (cases_eq k i)
  where
    at : (k : ℕ) (d : Emitted) → k < length es → (k ≡ i) ⊎ (k ≢ i) → IsLeftOf xs (slice_index_or (slice_set es i e) k d)
    at k d m (inl same) =
        subst (IsLeftOf xs)
        (sym (ap (λ n. slice_index_or (slice_set es i e) n d) same ∙ get_or-set_same es i e d l)) own
    at k d m (inr other) = subst (IsLeftOf xs) (sym (get_or-set_other es i k e d other)) (each k d m)

-- ---- what is left at first

-- what is made of an ACE of the code, with its row, is left of the list
pub left_named : (aces : List AceRef) (rows : List ℕ) (place : ℕ) (x : AceRef) (e : Emitted)
    → AreRowNumbers (aces_in aces) rows → place < length aces → x ≡ slice_index_or aces place x
    → principal e.key.principal ≡ principal_of (ace x) → e.row ≡ slice_index_or rows place 0
    → IsLeftOf (aces_in aces) e
left_named aces rows place x e numbers l is names row = record {
  named =
      emitted_principal (plain_key e.key) e.mask.bits
      (subst IsNamed (sym names) (record { who = x.who.now; is_group = has_bit x.flags.bits 6; is = refl }));
  row = record {
    named = ap (λ p. is_principal_of p whole) names ∙ named_there whole place (ace x) within at;
    is = row ∙ row_here whole rows place (ace x) numbers within at ∙ ap (λ p. row_of p whole) (sym names);
  };
}
  where
    whole : List Ace
    whole = aces_in aces

    within : place < length whole
    within = omega (arith, length_of aces, l)

    at : slice_index_or whole place (ace x) ≡ ace x
    at = index_is aces place x l is

-- what is made of an ACE of the code and a mask is the ACE with this mask, and with cleared flags
pub left_cleared : (x : AceRef) (m : Mask) (e : Emitted) → principal e.key.principal ≡ principal_of (ace x)
    → e.key.kind ≡ x.kind → e.mask ≡ m → emitted_ace e ≡ cleared (shown x m)
left_cleared x m e names kind mask =
    ap (λ p. emitted (p, e.key.kind) e.mask.bits) names
    ∙ ap (λ k. emitted (principal_of (ace x), k) e.mask.bits) kind
    ∙ ap (λ (n : Mask). emitted (principal_of (ace x), x.kind) n.bits) mask
    ∙ ap (λ w. record { kind = x.kind; flags = flags_for (principal_of (ace x)); mask = m.bits; who = w })
    (who_is (ace x))

-- what is emitted from a list with the columns of a reduced list is the normal form
pub short_formed : (list xs es ns : List Ace) → IsReducedOf list xs → ((b : ℕ) → column es b ≡ column xs b)
    → IsEmission es ns → IsNormalFormOf list ns
short_formed list xs es ns reduced columns e =
    let both = left_normal xs ns reduced.irreducible (record {
      alike = λ b. subst (λ c. IsAlike c (column ns b)) (columns b) (e.alike b);
      once = e.once;
      ordered = e.ordered;
      flags = e.flags;
      masks = e.masks;
    }) in
    form_of_reduced list xs ns reduced both.0 both.1

-- ---- the turns

-- for the ACE that comes first of those that are left
module _ (left : List Ace) (a : Ace) (first : ComesFirst left a) where
  -- the ACE that comes first, and what is left without its rights
  pub first_step : IsStep left a (take_out (principal_of a) a.mask left)
  first_step = record {
    flags = first.flags;
    mask = first.mask;
    least = first.least;
    all = first.all;
    taken = λ b h. column_taken b (principal_of a) a.mask left ∙ rw h refl;
    kept = λ b h. column_taken b (principal_of a) a.mask left ∙ rw h refl;
  }

  -- no right has more keys without the rights
  no_more : (b : ℕ) → length (column (take_out (principal_of a) a.mask left) b) ≤ length (column left b)
  no_more b = go (has_bit a.mask b) (ap length (column_taken b (principal_of a) a.mask left))
    where
      go : (t : Bool) → length (column (take_out (principal_of a) a.mask left) b)
          ≡ length (cond t (without_principal (principal_of a) (column left b)) (column left b))
          → length (column (take_out (principal_of a) a.mask left) b) ≤ length (column left b)
      go true e = omega (arith, e, without_no_longer (principal_of a) (column left b))
      go false e = omega (arith, e)

  -- each turn leaves fewer keys
  pub fewer_left : IsMask a.mask
      → count_left 21 (take_out (principal_of a) a.mask left) < count_left 21 left
  fewer_left within =
      let some = some_bit a.mask (IsMask-lt a.mask within) first.mask in
      count_less 21 some.0 left (take_out (principal_of a) a.mask left)
      (below some.0 (bits_from_mask a.mask some.0 within some.1)) no_more (fewer_at some.0 some.1)
    where
      fewer_at : (b : ℕ) → has_bit a.mask b ≡ true
          → length (column (take_out (principal_of a) a.mask left) b) < length (column left b)
      fewer_at b has =
          let p = principal_of a in
          let less = without_shorter p (column left b) a.kind
          (ahead_from_free (column left b) p a.kind (sym (first.all b) ∙ has) p (overlaps_itself p)) in
          omega (arith, less, ap length (first_step.taken b has))
