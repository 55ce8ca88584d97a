-- Bits of a principal taken out of a list.
use Rattle.acl_normal.proofs.Common.{[], Ace, ap, Bool, column, cond, counts, false, first_at, has_bit, has_bit-without, HasOnceColumns, is_inherit_only, is_waiting, IsOnce, Kind, List, None, not, Principal, principal_eq, principal_of, refl, Some, subst, suc, sym, take_out, true, waits, without, without_bits, without_principal, zero, ℕ, ◌&&◌, ◌^◌, ◌∙◌, ◌∷◌, ◌≡◌, ◌≢◌, ◌≤◌, arith, ⊎_elim, Column, only_bit, and_false_right, Option, option_map, kind_eq, same_class, is_user}
use Rattle.acl_normal.proofs.unique.Names.{principal_eq_same, principal_eq_turned}
use Rattle.acl_normal.proofs.unique.Bits.{masks_same}
use Rattle.acl_normal.proofs.unique.Columns.{column_first}
use Rattle.acl_normal.proofs.unique.Shorter.{once_without}
use Rattle.acl_normal.proofs.rows.FirstAces.{IsHere, IsThere, first_cases, none_cases, once_rest, none_behind}
use Rattle.std.proofs.Math.Bool.{and-true}

-- an ACE keeps its principal when bits are taken out
pub principal_kept : (p : Principal) (m : ℕ) (a : Ace) → principal_of (without_bits p m a) ≡ principal_of a
principal_kept p m a = kept (principal_eq (principal_of a) p && not (is_inherit_only a))
  where
    kept : (t : Bool) → principal_of (cond t (record a { mask = without a.mask m }) a) ≡ principal_of a
    kept true = refl
    kept false = refl

-- an ACE keeps its kind when bits are taken out
pub kind_kept : (p : Principal) (m : ℕ) (a : Ace) → (without_bits p m a).kind ≡ a.kind
kind_kept p m a = kept (principal_eq (principal_of a) p && not (is_inherit_only a))
  where
    kept : (t : Bool) → (cond t (record a { mask = without a.mask m }) a).kind ≡ a.kind
    kept true = refl
    kept false = refl

-- an ACE without bits of a principal counts at a bit if it did and the bit was not taken from it
pub counts_left : (b : ℕ) (p : Principal) (m : ℕ) (a : Ace)
    → counts b (without_bits p m a) ≡ (counts b a && not (principal_eq (principal_of a) p && has_bit m b))
counts_left b p m a = kept (principal_eq (principal_of a) p) (is_inherit_only a) refl
  where
    last : (x y : Bool) → ((x && y) && true) ≡ ((x && true) && y)
    last true y = and-true y
    last false y = refl

    kept : (s i : Bool) → is_inherit_only a ≡ i
        → counts b (cond (s && not i) (record a { mask = without a.mask m }) a)
        ≡ (counts b a && not (s && has_bit m b))
    kept false i e = sym (and-true (counts b a))
    kept true true e = rw (e, and_false_right (has_bit a.mask b)) refl
    kept true false e =
        rw e (ap (λ v. v && true) (has_bit-without a.mask m b) ∙ last (has_bit a.mask b) (not (has_bit m b)))

-- one ACE in front of a list whose column was taken out has its own key taken out
column_step : (b : ℕ) (p : Principal) (m : ℕ) (a a' : Ace) (xs ys : List Ace)
    → counts b a' ≡ (counts b a && not (principal_eq (principal_of a) p && has_bit m b))
    → principal_of a' ≡ principal_of a → a'.kind ≡ a.kind
    → column ys b ≡ cond (has_bit m b) (without_principal p (column xs b)) (column xs b)
    → column (a' ∷ ys) b ≡ cond (has_bit m b) (without_principal p (column (a ∷ xs) b)) (column (a ∷ xs) b)
column_step b p m a a' xs ys cs ss ks ih =
    let mid : cond (counts b a') ((principal_of a', a'.kind) ∷ column ys b) (column ys b) ≡ cond (has_bit m b)
    (without_principal p (cond (counts b a) ((principal_of a, a.kind) ∷ column xs b) (column xs b)))
    (cond (counts b a) ((principal_of a, a.kind) ∷ column xs b) (column xs b)) =
    rw (cs, ss, ks, ih) (pure (counts b a) (principal_eq (principal_of a) p) (has_bit m b) refl) in
    column_first b a' ys ∙ mid ∙ ap (λ c. cond (has_bit m b) (without_principal p c) c) (sym (column_first b a xs))
  where
    pure : (t s h : Bool) → principal_eq (principal_of a) p ≡ s
        → cond (t && not (s && h)) ((principal_of a, a.kind) ∷ cond h (without_principal p (column xs b))
        (column xs b)) (cond h (without_principal p (column xs b)) (column xs b)) ≡ cond h
        (without_principal p (cond t ((principal_of a, a.kind) ∷ column xs b) (column xs b)))
        (cond t ((principal_of a, a.kind) ∷ column xs b) (column xs b))
    pure true true true f = rw f refl
    pure true true false f = refl
    pure true false true f = rw f refl
    pure true false false f = refl
    pure false s true f = refl
    pure false s false f = refl

-- the columns of the bits that are taken out lose the principal, and the others stay
pub column_taken : (b : ℕ) (p : Principal) (m : ℕ) (xs : List Ace)
    → column (take_out p m xs) b ≡ cond (has_bit m b) (without_principal p (column xs b)) (column xs b)
column_taken b p m [] = both (has_bit m b) []
  where
    both : (t : Bool) (c : Column) → c ≡ cond t c c
    both true c = refl
    both false c = refl
column_taken b p m (a ∷ xs) =
    column_step b p m a (without_bits p m a) xs (take_out p m xs) (counts_left b p m a) (principal_kept p m a)
    (kind_kept p m a) (column_taken b p m xs)

-- a principal has no ACE with a bit that was taken out
pub first_gone : (b : ℕ) (p : Principal) (m : ℕ) (xs : List Ace) → has_bit m b ≡ true
    → first_at b p (take_out p m xs) ≡ None
first_gone b p m [] h = refl
first_gone b p m (a ∷ xs) h =
    ap (λ t. cond t (Some ((without_bits p m a).kind, 0)) (option_map (λ (e : Kind × ℕ). (e.0, suc e.1))
    (first_at b p (take_out p m xs)))) lacks
    ∙ ap (option_map (λ (e : Kind × ℕ). (e.0, suc e.1))) (first_gone b p m xs h)
  where
    gone : (x s : Bool) → ((x && not (s && true)) && s) ≡ false
    gone true true = refl
    gone true false = refl
    gone false s = refl

    lacks : (counts b (without_bits p m a) && principal_eq (principal_of (without_bits p m a)) p) ≡ false
    lacks =
        ap (λ v. v && principal_eq (principal_of (without_bits p m a)) p) (counts_left b p m a)
        ∙ ap (λ v. (counts b a && not (principal_eq (principal_of a) p && has_bit m b)) && principal_eq v p)
        (principal_kept p m a)
        ∙ rw h (gone (counts b a) (principal_eq (principal_of a) p))

-- the first ACE of another principal, or with another bit, is as before
pub first_kept : (b : ℕ) (p q : Principal) (m : ℕ) (xs : List Ace) → (principal_eq p q && has_bit m b) ≡ false
    → first_at b q (take_out p m xs) ≡ first_at b q xs
first_kept b p q m [] h = refl
first_kept b p q m (a ∷ xs) h =
    ap (λ t. cond t (Some ((without_bits p m a).kind, 0)) (behind (first_at b q (take_out p m xs)))) test
    ∙ ap (λ k. cond own (Some (k, 0)) (behind (first_at b q (take_out p m xs)))) (kind_kept p m a)
    ∙ ap (λ v. cond own (Some (a.kind, 0)) (behind v)) (first_kept b p q m xs h)
  where
    own : Bool
    own = counts b a && principal_eq (principal_of a) q

    behind : Option (Kind × ℕ) → Option (Kind × ℕ)
    behind = option_map (λ (e : Kind × ℕ). (e.0, suc e.1))

    same : (t : Bool) → principal_eq (principal_of a) q ≡ t
        → ((counts b a && not (principal_eq (principal_of a) p && has_bit m b)) && t) ≡ (counts b a && t)
    same false e =
        and_false_right (counts b a && not (principal_eq (principal_of a) p && has_bit m b))
        ∙ sym (and_false_right (counts b a))
    same true e =
        let off : (principal_eq (principal_of a) p && has_bit m b) ≡ false =
        ap (λ v. v && has_bit m b)
        (ap (λ v. principal_eq v p) (principal_eq_same (principal_of a) q e) ∙ principal_eq_turned q p) ∙ h in
        ap (λ v. (counts b a && not v) && true) off ∙ and-true (counts b a && true)

    test : (counts b (without_bits p m a) && principal_eq (principal_of (without_bits p m a)) q) ≡ own
    test =
        ap (λ v. v && principal_eq (principal_of (without_bits p m a)) q) (counts_left b p m a)
        ∙ ap (λ v. (counts b a && not (principal_eq (principal_of a) p && has_bit m b)) && principal_eq v q)
        (principal_kept p m a)
        ∙ same (principal_eq (principal_of a) q) refl

-- a key waits after bits of a principal were taken out if it did and the bit was not taken from it
pub waiting_left : (k : Kind) (u : Bool) (b : ℕ) (p : Principal) (m : ℕ) (a : Ace)
    → is_waiting k u b (without_bits p m a)
    ≡ (is_waiting k u b a && not (principal_eq (principal_of a) p && has_bit m b))
waiting_left k u b p m a =
    ap (λ v. v && (kind_eq (without_bits p m a).kind k && same_class (is_user (principal_of (without_bits p m a))) u))
    (counts_left b p m a)
    ∙ ap (λ v. left && (kind_eq v k && same_class (is_user (principal_of (without_bits p m a))) u)) (kind_kept p m a)
    ∙ ap (λ v. left && (kind_eq a.kind k && same_class (is_user v) u)) (principal_kept p m a)
    ∙ last (counts b a) (not (principal_eq (principal_of a) p && has_bit m b))
    (kind_eq a.kind k && same_class (is_user (principal_of a)) u)
  where
    left : Bool
    left = counts b a && not (principal_eq (principal_of a) p && has_bit m b)

    last : (x y z : Bool) → ((x && y) && z) ≡ ((x && z) && y)
    last true true true = refl
    last true true false = refl
    last true false true = refl
    last true false false = refl
    last false y z = refl

-- at a bit that was not taken out the same places wait
pub waits_kept : (k : Kind) (u : Bool) (b : ℕ) (p : Principal) (m : ℕ) (xs : List Ace) (i : ℕ) → has_bit m b ≡ false
    → waits k u b (take_out p m xs) i ≡ waits k u b xs i
waits_kept k u b p m [] i h = refl
waits_kept k u b p m (a ∷ xs) zero h = grind (arith, waiting_left k u b p m a)
waits_kept k u b p m (a ∷ xs) (suc i) h = waits_kept k u b p m xs i h

-- the place of a principal's first ACE with a bit that was taken out no longer waits
pub waits_gone : (k : Kind) (u : Bool) (b : ℕ) (p : Principal) (m : ℕ) (xs : List Ace) (j : Kind) (i : ℕ)
    → has_bit m b ≡ true → first_at b p xs ≡ Some (j, i) → waits k u b (take_out p m xs) i ≡ false
waits_gone k u b p m [] j i h f = refl
waits_gone k u b p m (a ∷ xs) j i h f = ⊎_elim
    (λ (here : IsHere b p a j i). rw here.place (grind (arith, waiting_left k u b p m a, here.same)))
    (λ (there : IsThere b p a xs j i). rw there.place (waits_gone k u b p m xs j there.before h there.first))
    (first_cases b p a xs j i f)

-- no ACE of the principal has any of the bits
abbrev pub LacksBits : Principal → ℕ → List Ace → Type 0
LacksBits p m xs = (b : ℕ) → has_bit m b ≡ true → first_at b p xs ≡ None

-- an ACE that has none of the bits for the principal stays as it is
pub without_absent_bits : (p : Principal) (m : ℕ) (a : Ace)
    → ((b : ℕ) → has_bit m b ≡ true → (counts b a && principal_eq (principal_of a) p) ≡ false) → without_bits p m a ≡ a
without_absent_bits p m a h =
    grind (
      arith,
      λ (part : is_inherit_only a ≡ false) (own : principal_eq (principal_of a) p ≡ true).
          ap (λ v. record a { mask = v }) (masks_same (without a.mask m) a.mask
          (λ b. has_bit-without a.mask m b ∙ grind (arith, h b, part, own))),
    )

-- bits that no ACE of the principal has are taken from none
pub take_absent : (p : Principal) (m : ℕ) (xs : List Ace) → LacksBits p m xs → take_out p m xs ≡ xs
take_absent p m [] h = refl
take_absent p m (a ∷ xs) h =
    ap (λ v. v ∷ take_out p m xs) (without_absent_bits p m a (λ b i. (none_cases b p a xs (h b i)).0))
    ∙ ap (λ v. a ∷ v) (take_absent p m xs (λ b i. (none_cases b p a xs (h b i)).1))

-- an ACE that does not count for the principal at a bit stays as it is without that bit
pub bits_absent : (b : ℕ) (p : Principal) (a : Ace) → (counts b a && principal_eq (principal_of a) p) ≡ false
    → without_bits p (2 ^ b) a ≡ a
bits_absent b p a h =
    without_absent_bits p (2 ^ b) a (λ i has.
    subst (λ v. (counts v a && principal_eq (principal_of a) p) ≡ false) (sym (only_bit b i has)) h)

-- a bit that no ACE of the principal has is taken from none
pub take_none : (b : ℕ) (p : Principal) (xs : List Ace) → first_at b p xs ≡ None → take_out p (2 ^ b) xs ≡ xs
take_none b p xs f =
    take_absent p (2 ^ b) xs (λ i has. subst (λ v. first_at v p xs ≡ None) (sym (only_bit b i has)) f)

-- each other place waits as before when a bit is taken out of a principal
pub waits_apart : (k : Kind) (u : Bool) (b : ℕ) (p : Principal) (xs : List Ace) (j : Kind) (i l : ℕ)
    → IsOnce (column xs b) → first_at b p xs ≡ Some (j, i) → l ≢ i
    → waits k u b (take_out p (2 ^ b) xs) l ≡ waits k u b xs l
waits_apart k u b p [] j i l once f n = refl
waits_apart k u b p (a ∷ xs) j i zero once f n = ⊎_elim
    (λ (here : IsHere b p a j i). absurd (n (sym here.place)))
    (λ (there : IsThere b p a xs j i). ap (is_waiting k u b) (bits_absent b p a there.other))
    (first_cases b p a xs j i f)
waits_apart k u b p (a ∷ xs) j i (suc l) once f n = ⊎_elim
    (λ (here : IsHere b p a j i). ap (λ v. waits k u b v l) (take_none b p xs (none_behind b p a xs j i once here)))
    (λ (there : IsThere b p a xs j i). waits_apart k u b p xs j there.before l (once_rest b a xs once) there.first
    (λ e. n (ap suc e ∙ sym there.place)))
    (first_cases b p a xs j i f)

-- the columns have each principal once after bits are taken out
pub once_taken : (p : Principal) (m : ℕ) (xs : List Ace) → HasOnceColumns xs → HasOnceColumns (take_out p m xs)
once_taken p m xs once b =
    rw (column_taken b p m xs) (grind (arith, once_without p (column xs b) (once b), once b))

-- an empty column stays empty when bits are taken out
pub none_taken : (p : Principal) (m : ℕ) (xs : List Ace) (b : ℕ) → column xs b ≡ [] → column (take_out p m xs) b ≡ []
none_taken p m xs b none = column_taken b p m xs ∙ rw none (grind arith)

-- the columns from bit 21 on stay empty when bits are taken out
pub low_taken : (p : Principal) (m : ℕ) (xs : List Ace) → ((b : ℕ) → 21 ≤ b → column xs b ≡ []) → (b : ℕ) → 21 ≤ b
    → column (take_out p m xs) b ≡ []
low_taken p m xs low b h = none_taken p m xs b (low b h)
