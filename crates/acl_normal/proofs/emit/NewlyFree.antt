-- What becomes free when bits of a key are taken out.
use Rattle.acl_normal.proofs.Common.{Ace, Bool, ColumnKey, Enters, Grows, Kind, List, Marked, Principal, ap, arith, cases_eq, cases_lt, column, false, has_bit, inl, inr, is_free, is_user, other_kind, refl, subst, sym, true, ℕ, ⊎_elim, ◌&&◌, ◌+◌, ◌<◌, ◌∙◌, ◌≡◌, ◌≤◌, ◌⊎◌}
use Rattle.acl_normal.specs.internal.NextRight.{LacksFrom}
use Rattle.acl_normal.specs.internal.emit.Ready.{Frees}
use Rattle.acl_normal.proofs.unique.NextRight.{past_absent}

-- what `Frees` says, of the bits below a number
pub record FreesBelow (k : ColumnKey) (bits : ℕ) (xs : List Ace) (old new : Marked) (n : ℕ) : Type 0 where
  pub grows : Grows xs old new
  pub all : (q : Principal) (b : ℕ) → b < n → has_bit bits b ≡ true → (is_user k.0 && is_user q) ≡ false
      → is_free (column xs b) (q, other_kind k.1) ≡ true → has_bit (new (q, other_kind k.1)) b ≡ true

-- what does not change only grows
pub grows_nothing : (xs : List Ace) (old : Marked) → Grows xs old old
grows_nothing xs old = record { kept = λ l i h. h; sound = λ l i h. inl h }

-- if only free bits were added in each of two steps, only free bits were added in both together
pub grows_on : (xs : List Ace) (x y z : Marked) → Grows xs x y → Grows xs y z → Grows xs x z
grows_on xs x y z g h = record {
  kept = λ l b e. h.kept l b (g.kept l b e);
  sound = λ l b e. ⊎_elim (λ f. g.sound l b f) (λ f. inr f) (h.sound l b e);
}

-- there are no bits below bit 0 at which a key could become free
pub frees_nothing : (k : ColumnKey) (bits : ℕ) (xs : List Ace) (old : Marked) → FreesBelow k bits xs old old 0
frees_nothing k bits xs old = record { grows = grows_nothing xs old; all = λ q b l. absurd (omega (arith, l)) }

-- if bit n was not taken out, no key becomes free at it
pub frees_on_absent : (k : ColumnKey) (bits : ℕ) (xs : List Ace) (old new : Marked) (n : ℕ)
    → FreesBelow k bits xs old new n → has_bit bits n ≡ false → FreesBelow k bits xs old new (n + 1)
frees_on_absent k bits xs old new n f none = record {
  grows = f.grows;
  all = λ q b l has class free. go q b l has class free (cases_eq b n);
}
  where
    go : (q : Principal) (b : ℕ) → b < n + 1 → has_bit bits b ≡ true → (is_user k.0 && is_user q) ≡ false
        → is_free (column xs b) (q, other_kind k.1) ≡ true → (b ≡ n) ⊎ (b ≡ n → ⊥)
        → has_bit (new (q, other_kind k.1)) b ≡ true
    go q b l has class free (inl e) = absurd (clash (sym has ∙ ap (has_bit bits) e ∙ none))
      where
        clash : true ≡ false → ⊥
        clash h = cc
    go q b l has class free (inr d) =
        f.all q b (⊎_elim (λ g. g) (λ g. absurd (d (omega (arith, g, l)))) (cases_lt b n)) has class free

-- if no bit from m up to n was taken out, no key becomes free at them
pub frees_up_to : {k : ColumnKey} {bits : ℕ} {xs : List Ace} {old new : Marked} {m n : ℕ} → m ≤ n → LacksFrom bits m n
    → FreesBelow k bits xs old new m → FreesBelow k bits xs old new n
frees_up_to {k} {bits} {xs} {old} {new} {m} {n} from lacks f =
    past_absent (FreesBelow k bits xs old new) bits m n (frees_on_absent k bits xs old new) from lacks f

-- if the keys that are free at bit n are marked, those at the bits below n + 1 are
pub frees_on : (k : ColumnKey) (bits : ℕ) (xs : List Ace) (old new next : Marked) (n : ℕ)
    → FreesBelow k bits xs old new n → Grows xs new next
    → ((q : Principal) → (is_user k.0 && is_user q) ≡ false → is_free (column xs n) (q, other_kind k.1) ≡ true
    → has_bit (next (q, other_kind k.1)) n ≡ true)
    → FreesBelow k bits xs old next (n + 1)
frees_on k bits xs old new next n f g here = record {
  grows = grows_on xs old new next f.grows g;
  all = λ q b l has class free. go q b l has class free (cases_eq b n);
}
  where
    go : (q : Principal) (b : ℕ) → b < n + 1 → has_bit bits b ≡ true → (is_user k.0 && is_user q) ≡ false
        → is_free (column xs b) (q, other_kind k.1) ≡ true → (b ≡ n) ⊎ (b ≡ n → ⊥)
        → has_bit (next (q, other_kind k.1)) b ≡ true
    go q b l has class free (inl e) =
        rw e (here q class (subst (λ v. is_free (column xs v) (q, other_kind k.1) ≡ true) e free))
    go q b l has class free (inr d) =
        g.kept (q, other_kind k.1) b (f.all q b
        (⊎_elim (λ g. g) (λ g. absurd (d (omega (arith, g, l)))) (cases_lt b n)) has class free)

-- at bit n only keys of others become free if the key that was taken out is of a user
pub frees_on_user : {k : ColumnKey} {j : Kind} {bits : ℕ} {xs : List Ace} {old new next : Marked} {n : ℕ}
    → j ≡ other_kind k.1 → FreesBelow k bits xs old new n → is_user k.0 ≡ true → Enters j false n xs new next
    → FreesBelow k bits xs old next (n + 1)
frees_on_user {k} {j} {bits} {xs} {old} {new} {next} {n} is f user entered =
    let e = subst (λ v. Enters v false n xs new next) is entered in
    frees_on k bits xs old new next n f e.grows (λ q class free. e.all q (rw user at class) free)

-- at bit n keys of both classes become free if the key that was taken out is of no user
pub frees_on_other : {k : ColumnKey} {j : Kind} {bits : ℕ} {xs : List Ace} {old new mid next : Marked} {n : ℕ}
    → j ≡ other_kind k.1 → FreesBelow k bits xs old new n → Enters j false n xs new mid → Enters j true n xs mid next
    → FreesBelow k bits xs old next (n + 1)
frees_on_other {k} {j} {bits} {xs} {old} {new} {mid} {next} {n} is f others users =
    frees_on k bits xs old new next n f (grows_on xs new mid next e.grows g.grows)
    (λ q class free. go q free (is_user q) refl)
  where
    e : Enters (other_kind k.1) false n xs new mid
    e = subst (λ v. Enters v false n xs new mid) is others

    g : Enters (other_kind k.1) true n xs mid next
    g = subst (λ v. Enters v true n xs mid next) is users

    go : (q : Principal) → is_free (column xs n) (q, other_kind k.1) ≡ true → (t : Bool) → is_user q ≡ t
        → has_bit (next (q, other_kind k.1)) n ≡ true
    go q free true u = g.all q u free
    go q free false u = g.grows.kept (q, other_kind k.1) n (e.all q u free)

-- after the last bit all keys that become free are marked
pub frees_all : {k : ColumnKey} {bits : ℕ} {xs : List Ace} {old new : Marked} (n : ℕ) → FreesBelow k bits xs old new n
    → 21 ≤ n → Frees k bits xs old new
frees_all n f l = record { grows = f.grows; all = λ q b h. f.all q b (omega (arith, h, l)) }
