-- All that is free, bit by bit.
use Rattle.acl_normal.proofs.Common.{Ace, Allow, Bool, ColumnKey, Deny, Enters, Grows, Kind, List, Marked, Principal, [], ap, arith, bit_at-zero, cases_eq, cases_lt, column, false, has_bit, inl, inr, is_free, is_user, refl, same_answers, subst, sym, true, ℕ, ⊎_elim, ◌+◌, ◌<◌, ◌==◌, ◌∙◌, ◌≡◌, ◌≤◌, ◌⊎◌}
use Rattle.acl_normal.specs.internal.emit.Ready.{HoldsFree}
use Rattle.acl_normal.proofs.emit.NewlyFree.{grows_nothing, grows_on}

-- what is free at the bits below a place is marked
pub record Fills (xs : List Ace) (old new : Marked) (n : ℕ) : Type 0 where
  pub grows : Grows xs old new
  pub all : (k : ColumnKey) (b : ℕ) → b < n → is_free (column xs b) k ≡ true → has_bit (new k) b ≡ true

-- there are no bits below bit 0 at which a key could be free
pub fills_nothing : (xs : List Ace) (old : Marked) → Fills xs old old 0
fills_nothing xs old = record { grows = grows_nothing xs old; all = λ k b l. absurd (omega (arith, l)) }

-- if the free keys of both kinds and both classes were entered at bit n, all below n + 1 are marked
pub fills_on : (xs : List Ace) (old : Marked) {new v w x y : Marked} (n : ℕ) → Fills xs old new n
    → Enters Deny false n xs new v
    → Enters Deny true n xs v w → Enters Allow false n xs w x → Enters Allow true n xs x y → Fills xs old y (n + 1)
fills_on xs old {new} {v} {w} {x} {y} n f a b c d = record {
  grows = grows_on xs old new y f.grows all;
  all = λ k i l free. go k i l free (cases_eq i n);
}
  where
    tail : Grows xs v y
    tail = grows_on xs v w y b.grows (grows_on xs w x y c.grows d.grows)

    all : Grows xs new y
    all = grows_on xs new v y a.grows tail

    here : (q : Principal) (j : Kind) (u : Bool) → is_user q ≡ u → is_free (column xs n) (q, j) ≡ true
        → has_bit (y (q, j)) n ≡ true
    here q Deny false e free = tail.kept (q, Deny) n (a.all q e free)
    here q Deny true e free = d.grows.kept (q, Deny) n (c.grows.kept (q, Deny) n (b.all q e free))
    here q Allow false e free = d.grows.kept (q, Allow) n (c.all q e free)
    here q Allow true e free = d.all q e free

    go : (k : ColumnKey) (i : ℕ) → i < n + 1 → is_free (column xs i) k ≡ true → (i ≡ n) ⊎ (i ≡ n → ⊥)
        → has_bit (y k) i ≡ true
    go (q, j) i l free (inl e) =
        rw e (here q j (is_user q) refl (subst (λ v. is_free (column xs v) (q, j) ≡ true) e free))
    go k i l free (inr d) =
        all.kept k i (f.all k i (⊎_elim (λ g. g) (λ g. absurd (d (omega (arith, g, l)))) (cases_lt i n)) free)

-- after the last bit, what is marked is what is free
pub fills_all : (xs : List Ace) (old new : Marked) (n : ℕ) → Fills xs old new n → ((k : ColumnKey) → old k ≡ 0) → n ≡ 21
    → ((b : ℕ) → 21 ≤ b → column xs b ≡ []) → HoldsFree new xs
fills_all xs old new n f empty end low k b =
    same_answers (has_bit (new k) b) (is_free (column xs b) k) (λ h. sound k b (f.grows.sound k b h))
    (λ h. complete k b h (cases_lt b 21))
  where
    sound : (k : ColumnKey) (b : ℕ) → (has_bit (old k) b ≡ true) ⊎ (is_free (column xs b) k ≡ true)
        → is_free (column xs b) k ≡ true
    sound k b (inl h) =
        let none : has_bit (old k) b ≡ false =
        ap (λ v. has_bit v b) (empty k) ∙ ap (λ v. v == 1) (bit_at-zero b) in
        cc
    sound k b (inr h) = h

    complete : (k : ColumnKey) (b : ℕ) → is_free (column xs b) k ≡ true → (b < 21) ⊎ (21 ≤ b)
        → has_bit (new k) b ≡ true
    complete k b h (inl l) = f.all k b (subst (λ v. b < v) (sym end) l) h
    complete k b h (inr l) =
        let none : is_free (column xs b) k ≡ false = ap (λ c. is_free c k) (low b l) in
        cc
