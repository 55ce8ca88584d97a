-- Whether a key is free, by the places that wait.
use Rattle.acl_normal.proofs.Common.{[], Ace, Column, column, conflicts, false, first_at, first_kind, is_blocked, is_either, is_free, is_user, IsOnce, Kind, kind_eq, List, None, not, other_kind, Principal, principal_eq, principal_of, refl, same_class, Some, suc, true, ℕ, ◌&&◌, ◌||◌, ◌∷◌, ◌≡◌, ⊎_elim, may_overlap, Allow, Deny, ap, and_false_right, ace_key, counts, everyone, group, group_named, owner, sym, user, waits_before, Bool, ◌∙◌, Option}
use Rattle.acl_normal.proofs.unique.Columns.{column_has, column_lacks}
use Rattle.acl_normal.proofs.unique.Names.{kind_eq_itself}
use Rattle.acl_normal.proofs.rows.FirstAces.{IsHere, IsThere, first_cases, once_rest, none_column, kind_first, kind_in}

-- two different principals overlap unless both are users
pub overlap_by_class : (p q : Principal) → principal_eq p q ≡ false → may_overlap p q ≡ not (is_user p && is_user q)
overlap_by_class owner q h = refl
overlap_by_class (user a) (user b) h = h
overlap_by_class (user a) owner h = refl
overlap_by_class (user a) group h = refl
overlap_by_class (user a) (group_named b) h = refl
overlap_by_class (user a) everyone h = refl
overlap_by_class group q h = refl
overlap_by_class (group_named a) q h = refl
overlap_by_class everyone q h = refl

-- a kind is not a given one if and only if it is the other kind
pub not_kind : (j d : Kind) → not (kind_eq j d) ≡ kind_eq j (other_kind d)
not_kind Deny Deny = refl
not_kind Deny Allow = refl
not_kind Allow Deny = refl
not_kind Allow Allow = refl

-- keys of two different principals conflict if their kinds differ and one principal is no user
pub conflict_is : (s p : Principal) (j k : Kind) → principal_eq s p ≡ false
    → conflicts (s, j) (p, k) ≡ ((kind_eq j (other_kind k) && same_class (is_user s) false)
    || (not (is_user p) && (kind_eq j (other_kind k) && same_class (is_user s) true)))
conflict_is s p j k h =
    rw (overlap_by_class s p h, not_kind j k)
    (opposed (is_user s) (is_user p) (kind_eq j (other_kind k)))
  where
    opposed : (u v x : Bool)
        → (not (u && v) && x) ≡ ((x && same_class u false) || (not v && (x && same_class u true)))
    opposed true true true = refl
    opposed true true false = refl
    opposed true false true = refl
    opposed true false false = refl
    opposed false true true = refl
    opposed false true false = refl
    opposed false false true = refl
    opposed false false false = refl

-- a principal that the column lacks has no free key
pub lacking_not_free : (p : Principal) (k : Kind) (c : Column) → first_kind (is_either p p) c ≡ None
    → is_free c (p, k) ≡ false
lacking_not_free p k [] h = refl
lacking_not_free p k ((s, j) ∷ c) h = go (principal_eq s p) refl h (lacking_not_free p k c)
  where
    go : (t : Bool) → principal_eq s p ≡ t → first_kind (is_either p p) ((s, j) ∷ c) ≡ None
        → (first_kind (is_either p p) c ≡ None → is_free c (p, k) ≡ false) → is_free ((s, j) ∷ c) (p, k) ≡ false
    go true e none ih = absurd (found (rw e at none))
      where
        found : ◌≡◌ {A = Option Kind} (Some j) None → ⊥
        found g = cc
    go false e none ih =
        rw e (ap (λ v. not (conflicts (s, j) (p, k)) && v) (ih (rw e at none))
        ∙ and_false_right (not (conflicts (s, j) (p, k))))

-- no kind is the other kind
not_other : (j : Kind) → kind_eq j (other_kind j) ≡ false
not_other Deny = refl
not_other Allow = refl

-- a key that is blocked by a first key or by later ones, of others or, if it is of no user, of users
blocked_by : (n x0 x1 w0 w1 : Bool)
    → (not (x0 || (n && x1)) && not (w0 || (n && w1))) ≡ not ((x0 || w0) || (n && (x1 || w1)))
blocked_by false true x1 w0 w1 = refl
blocked_by false false x1 w0 w1 = refl
blocked_by true true x1 w0 w1 = refl
blocked_by true false true true w1 = refl
blocked_by true false true false w1 = refl
blocked_by true false false w0 w1 = refl

-- the keys of a principal whose first key with the bit is the first ACE
free_here : (b : ℕ) (p : Principal) (a : Ace) (xs : List Ace) (j : Kind) (i : ℕ) → IsOnce (column (a ∷ xs) b)
    → IsHere b p a j i
    → (is_free (column (a ∷ xs) b) (p, j) ≡ not (is_blocked j (is_user p) b (a ∷ xs) 0))
    × (is_free (column (a ∷ xs) b) (p, other_kind j) ≡ false)
free_here b p a xs j i once here =
    let lacks : first_kind (is_either p p) (column xs b) ≡ None = none_column b p a xs j i once here in
    let none = lacking_not_free p (other_kind j) (column xs b) lacks in
    rw (column_has b a xs here.counts, here.same, here.kind, kind_eq_itself j) (
      ap not (sym (and_false_right (not (is_user p)))),
      rw (not_other j, none) (and_false_right _),
    )

-- the keys of a principal whose first key with the bit comes after the first ACE
free_there : (b : ℕ) (p : Principal) (a : Ace) (xs : List Ace) (j : Kind) (i : ℕ) (t : IsThere b p a xs j i)
    → (is_free (column xs b) (p, j) ≡ not (is_blocked j (is_user p) b xs t.before))
    × (is_free (column xs b) (p, other_kind j) ≡ false)
    → (is_free (column (a ∷ xs) b) (p, j) ≡ not (is_blocked j (is_user p) b (a ∷ xs) (suc t.before)))
    × (is_free (column (a ∷ xs) b) (p, other_kind j) ≡ false)
free_there b p a xs j i t before = go (counts b a) refl
  where
    w0 : Bool
    w0 = waits_before (other_kind j) false b xs t.before

    w1 : Bool
    w1 = waits_before (other_kind j) true b xs t.before

    x0 : Bool
    x0 = kind_eq a.kind (other_kind j) && same_class (is_user (principal_of a)) false

    x1 : Bool
    x1 = kind_eq a.kind (other_kind j) && same_class (is_user (principal_of a)) true

    go : (c : Bool) → counts b a ≡ c
        → (is_free (column (a ∷ xs) b) (p, j) ≡ not (is_blocked j (is_user p) b (a ∷ xs) (suc t.before)))
        × (is_free (column (a ∷ xs) b) (p, other_kind j) ≡ false)
    go false e = rw (column_lacks b a xs e, e) before
    go true e =
        let other : principal_eq (principal_of a) p ≡ false =
        sym (ap (λ v. v && principal_eq (principal_of a) p) e) ∙ t.other in (
          rw (column_has b a xs e, e, other, conflict_is (principal_of a) p a.kind j other)
              (ap (λ v. not (x0 || (not (is_user p) && x1)) && v) before.0
              ∙ blocked_by (not (is_user p)) x0 x1 w0 w1),
          rw (column_has b a xs e, other)
              (ap (λ v. not (conflicts (ace_key a) (p, other_kind j)) && v) before.1
              ∙ and_false_right (not (conflicts (ace_key a) (p, other_kind j)))),
        )

-- the first key of a principal decides which of its keys is free
pub free_at_first : (b : ℕ) (p : Principal) (xs : List Ace) (j : Kind) (i : ℕ) → IsOnce (column xs b)
    → first_at b p xs ≡ Some (j, i)
    → (is_free (column xs b) (p, j) ≡ not (is_blocked j (is_user p) b xs i))
    × (is_free (column xs b) (p, other_kind j) ≡ false)
free_at_first b p [] j i once h = cc
free_at_first b p (a ∷ xs) j i once h = ⊎_elim
    (λ (here : IsHere b p a j i). rw here.place (free_here b p a xs j i once here))
    (λ (there : IsThere b p a xs j i). rw there.place (free_there b p a xs j i there
    (free_at_first b p xs j there.before (once_rest b a xs once) there.first)))
    (first_cases b p a xs j i h)

-- a principal without the bit is not free
pub none_free : (b : ℕ) (p : Principal) (k : Kind) (xs : List Ace) → first_at b p xs ≡ None
    → is_free (column xs b) (p, k) ≡ false
none_free b p k xs h = lacking_not_free p k (column xs b) (kind_first b p xs ∙ ap kind_in h)
