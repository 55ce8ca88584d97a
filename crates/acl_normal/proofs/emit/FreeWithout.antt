-- Which keys are free in a column without a principal.
use Rattle.acl_normal.proofs.unique.Shorter.{lacks_principal, without_absent}
use Rattle.acl_normal.proofs.Common.{Allow, Bool, Column, ColumnKey, Deny, IsOnce, Kind, None, Principal, [], and_from, and_parts, ap, bytes_eq, conflicts, false, first_kind, inl, inr, is_either, is_free, is_user, kind_eq, may_overlap, not, or_cases, or_left, or_right, other_kind, principal_eq, refl, same_Some, subst, sym, true, user, without_principal, ◌&&◌, ◌∙◌, ◌∷◌, ◌≡◌, ◌⊎◌}
use Rattle.acl_normal.proofs.unique.Names.{bytes_eq_itself, bytes_eq_same, kind_eq_same, overlaps_itself, principal_eq_itself, principal_eq_same}
use Rattle.acl_normal.proofs.unique.Free.{ahead_from_free, no_conflict}

-- of two different kinds the second is the other kind than the first
pub kinds_differ : (j k : Kind) → not (kind_eq j k) ≡ true → k ≡ other_kind j
kinds_differ Deny Allow h = refl
kinds_differ Allow Deny h = refl
kinds_differ Deny Deny h = cc
kinds_differ Allow Allow h = cc

-- if two different principals overlap, one of them is no user
pub one_is_other : (p q : Principal) → may_overlap p q ≡ true → principal_eq q p ≡ false
    → (is_user p && is_user q) ≡ false
one_is_other (user a) (user b) o n =
    let same : a ≡ b = bytes_eq_same a b o in
    let equal : bytes_eq b a ≡ true = subst (λ v. bytes_eq b v ≡ true) (sym same) (bytes_eq_itself b) in
    cc
one_is_other _ (user b) o n = refl
one_is_other (user a) _ o n = refl
one_is_other _ _ o n = refl

-- a key that is free stays free when another principal is taken out
pub free_without : (c : Column) (p : Principal) (l : ColumnKey) → principal_eq l.0 p ≡ false → is_free c l ≡ true
    → is_free (without_principal p c) l ≡ true
free_without [] p l n free = cc
free_without ((s, i) ∷ c) p l n free =
    go (principal_eq s p) refl (or_cases (principal_eq s l.0 && kind_eq i l.1)
    (not (conflicts (s, i) l) && is_free c l) free) (free_without c p l n)
  where
    apart : principal_eq s p ≡ true → principal_eq s l.0 ≡ true → ⊥
    apart e f =
        let same : l.0 ≡ p = sym (principal_eq_same s l.0 f) ∙ principal_eq_same s p e in
        let equal = subst (λ v. principal_eq l.0 v ≡ true) same (principal_eq_itself l.0) in
        cc

    go : (t : Bool) → principal_eq s p ≡ t
        → ((principal_eq s l.0 && kind_eq i l.1) ≡ true) ⊎ ((not (conflicts (s, i) l) && is_free c l) ≡ true)
        → (is_free c l ≡ true → is_free (without_principal p c) l ≡ true)
        → is_free (without_principal p ((s, i) ∷ c)) l ≡ true
    go true e (inl f) ih = absurd (apart e (and_parts (principal_eq s l.0) (kind_eq i l.1) f).0)
    go true e (inr f) ih = rw e (ih (and_parts (not (conflicts (s, i) l)) (is_free c l) f).1)
    go false e (inl f) ih =
        rw e (or_left (principal_eq s l.0 && kind_eq i l.1)
        (not (conflicts (s, i) l) && is_free (without_principal p c) l) f)
    go false e (inr f) ih =
        let both = and_parts (not (conflicts (s, i) l)) (is_free c l) f in
        rw e (or_right (principal_eq s l.0 && kind_eq i l.1)
        (not (conflicts (s, i) l) && is_free (without_principal p c) l)
        (and_from (not (conflicts (s, i) l)) (is_free (without_principal p c) l) both.0 (ih both.1)))

-- if the first key of a column has the principal of a free key, it has its kind too
free_kind : (s p : Principal) (i j : Kind) (c : Column) → principal_eq s p ≡ true
    → ((principal_eq s p && kind_eq i j) ≡ true) ⊎ ((not (conflicts (s, i) (p, j)) && is_free c (p, j)) ≡ true)
    → i ≡ j
free_kind s p i j c e (inl f) = kind_eq_same i j (and_parts (principal_eq s p) (kind_eq i j) f).1
free_kind s p i j c e (inr f) =
    let same : s ≡ p = principal_eq_same s p e in
    no_conflict s p i j (subst (λ v. may_overlap s v ≡ true) same (overlaps_itself s))
    (and_parts (not (conflicts (s, i) (p, j))) (is_free c (p, j)) f).0

-- a key that does not conflict with a free one was free before it was taken out
pub free_back : (c : Column) (p : Principal) (j : Kind) (l : ColumnKey) → IsOnce c → is_free c (p, j) ≡ true
    → conflicts (p, j) l ≡ false → is_free (without_principal p c) l ≡ true → is_free c l ≡ true
free_back [] p j l once free apart left = left
free_back ((s, i) ∷ c) p j l once free apart left =
    go (principal_eq s p) refl (or_cases (principal_eq s p && kind_eq i j)
    (not (conflicts (s, i) (p, j)) && is_free c (p, j)) free) (free_back c p j l once.1)
  where
    go : (t : Bool) → principal_eq s p ≡ t
        → ((principal_eq s p && kind_eq i j) ≡ true) ⊎ ((not (conflicts (s, i) (p, j)) && is_free c (p, j)) ≡ true)
        → (is_free c (p, j) ≡ true → conflicts (p, j) l ≡ false → is_free (without_principal p c) l ≡ true → is_free
        c l ≡ true) → is_free ((s, i) ∷ c) l ≡ true
    go true e f ih =
        let same : s ≡ p = principal_eq_same s p e in
        let alone = without_absent p c (subst (λ v. first_kind (is_either v v) c ≡ None) same once.0) in
        let rest : is_free (without_principal p c) l ≡ true = rw e at left in
        let clear : conflicts (s, i) l ≡ false = rw (same, free_kind s p i j c e f) apart in
        or_right (principal_eq s l.0 && kind_eq i l.1) (not (conflicts (s, i) l) && is_free c l)
        (and_from (not (conflicts (s, i) l)) (is_free c l) (ap not clear)
        (subst (λ v. is_free v l ≡ true) alone rest))
    go false e (inl f) ih = absurd (clash (sym e ∙ (and_parts (principal_eq s p) (kind_eq i j) f).0))
      where
        clash : false ≡ true → ⊥
        clash h = cc
    go false e (inr f) ih =
        from (or_cases (principal_eq s l.0 && kind_eq i l.1)
        (not (conflicts (s, i) l) && is_free (without_principal p c) l) (rw e at left))
      where
        from : ((principal_eq s l.0 && kind_eq i l.1) ≡ true)
            ⊎ ((not (conflicts (s, i) l) && is_free (without_principal p c) l) ≡ true) → is_free ((s, i) ∷ c) l ≡ true
        from (inl g) = or_left (principal_eq s l.0 && kind_eq i l.1) (not (conflicts (s, i) l) && is_free c l) g
        from (inr g) =
            let both = and_parts (not (conflicts (s, i) l)) (is_free (without_principal p c) l) g in
            or_right (principal_eq s l.0 && kind_eq i l.1) (not (conflicts (s, i) l) && is_free c l)
            (and_from (not (conflicts (s, i) l)) (is_free c l) both.0
            (ih (and_parts (not (conflicts (s, i) (p, j))) (is_free c (p, j)) f).1 apart both.1))

-- only one kind of a principal is free
pub one_free : (c : Column) (p : Principal) (j k : Kind) → is_free c (p, j) ≡ true → is_free c (p, k) ≡ true → j ≡ k
one_free c p j k f g =
    same_Some j k
    (sym (ahead_from_free c p j f p (overlaps_itself p)) ∙ ahead_from_free c p k g p (overlaps_itself p))

-- a principal that a column lacks is not free in it
pub lacks_free : (c : Column) (p : Principal) (k : Kind) → is_free (without_principal p c) (p, k) ≡ true → ⊥
lacks_free c p k h =
    let some = ahead_from_free (without_principal p c) p k h p (overlaps_itself p) in
    let none = lacks_principal p c in
    cc
