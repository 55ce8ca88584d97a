-- The columns of a list in which an ACE is joined into an earlier one.
use Rattle.acl_contain.proofs.joins.Moved.{IsFreeOf, goes_up, same_behind, twice}
use Rattle.acl_normal.proofs.Common.{Ace, Bool, Column, ColumnKey, HasName, HaveNames, IsIrreducible, IsOnce, List, Principal, SameVerdicts, [], ace_key, and_parts, ap, append_assoc, arith, column, cond, conflicts, first_kind, flags_for, has_bit, is_either, length, length-append, principal_of, refl, subst, suc, sym, true, false, ℕ, ◌++◌, ◌<◌, ◌∙◌, ◌∷◌, ◌≡◌, ◌≤◌, ◌||◌}
use Rattle.std.specs.Prelude.{None, Some}
use Rattle.acl_normal.proofs.Each.{all_append, all_left, all_right}
use Rattle.acl_normal.proofs.Exports.{irreducible_fewest}
use Rattle.acl_normal.proofs.unique.Columns.{column-append, column-cons, column_has, column_lacks, counts}
use Rattle.acl_normal.proofs.unique.FirstKind.{IsClique}
use Rattle.acl_normal.proofs.unique.Irreducible.{irreducible_clean, once_from_clean}
use Rattle.acl_normal.proofs.unique.Names.{either_first}
use Rattle.acl_perm.specs.declared.kind.Kind.{Kind}
use Rattle.acl_contain.specs.Tidied.{ace_at_place}

-- the ACE has the flags that its principal needs
abbrev pub IsClear : Ace → Type 0
IsClear a = a.flags ≡ flags_for (principal_of a)

-- the column of a list that begins with an ACE of a key, which may have the right
pub first_of : (b : ℕ) (a : Ace) (t : List Ace) (e : ColumnKey) (has : Bool) → IsClear a → ace_key a ≡ e
    → has_bit a.mask b ≡ has → column (a ∷ t) b ≡ cond has (e ∷ column t b) (column t b)
first_of b a t e has clear key is = column-cons b a t clear ∙ rw (is, key) refl

-- what two columns find, and how many keys they have, where a key is joined
pub record IsJoinedColumn (m : Principal → Bool) (before after : Column) : Type 0 where
  pub finds : first_kind m before ≡ first_kind m after
  pub fewer : length after ≤ length before

-- the columns of one right where an ACE is joined into the first of a list
join_first : (m : Principal → Bool) (b : ℕ) (x sum a : Ace) (t rest : List Ace) → IsClique m → IsClear x → IsClear sum
    → IsClear a → ace_key x ≡ ace_key a → ace_key sum ≡ ace_key a
    → has_bit sum.mask b ≡ (has_bit x.mask b || has_bit a.mask b)
    → (has_bit a.mask b ≡ true → IsFreeOf (ace_key a) (column t b))
    → IsJoinedColumn m (column (x ∷ t) b ++ column (a ∷ rest) b) (column (sum ∷ t) b ++ column rest b)
join_first m b x sum a t rest clique cx cs ca kx ks union free = by (has_bit x.mask b) refl (has_bit a.mask b) refl
  where
    e : ColumnKey
    e = ace_key a

    c : Column
    c = column t b

    r : Column
    r = column rest b

    shown : (has one : Bool) → has_bit x.mask b ≡ has → has_bit a.mask b ≡ one
        → IsJoinedColumn m (cond has (e ∷ c) c ++ cond one (e ∷ r) r) (cond (has || one) (e ∷ c) c ++ r)
        → IsJoinedColumn m (column (x ∷ t) b ++ column (a ∷ rest) b) (column (sum ∷ t) b ++ column rest b)
    shown has one i j h =
        subst (λ v. IsJoinedColumn m v (column (sum ∷ t) b ++ r))
        (sym (ap (λ v. v ++ column (a ∷ rest) b) (first_of b x t e has cx kx i)
        ∙ ap (λ v. cond has (e ∷ c) c ++ v) (first_of b a rest e one ca refl j)))
        (subst (λ v. IsJoinedColumn m (cond has (e ∷ c) c ++ cond one (e ∷ r) r) (v ++ r))
        (sym (first_of b sum t e (has || one) cs ks (union ∙ ap (λ v. v || has_bit a.mask b) i ∙ ap (λ v. has || v) j)))
        h)

    by : (has : Bool) → has_bit x.mask b ≡ has → (one : Bool) → has_bit a.mask b ≡ one
        → IsJoinedColumn m (column (x ∷ t) b ++ column (a ∷ rest) b) (column (sum ∷ t) b ++ column rest b)
    by true i true j = shown true true i j (record {
      finds = same_behind m (e ∷ []) (c ++ e ∷ r) (e ∷ (c ++ r)) (goes_up m c e r clique (free j)) ∙ twice m e (c ++ r);
      fewer = omega (arith, length-append c (e ∷ r), length-append c r);
    })
    by true i false j = shown true false i j (record { finds = refl; fewer = omega arith })
    by false i true j = shown false true i j (record {
      finds = goes_up m c e r clique (free j);
      fewer = omega (arith, length-append c (e ∷ r), length-append c r);
    })
    by false i false j = shown false false i j (record { finds = refl; fewer = omega arith })

-- the columns of one right where an ACE is joined into one of a list
pub join_in : (m : Principal → Bool) (b : ℕ) (l : List Ace) (x sum a : Ace) (t rest : List Ace) → IsClique m → IsClear x
    → IsClear sum → IsClear a → ace_key x ≡ ace_key a → ace_key sum ≡ ace_key a
    → has_bit sum.mask b ≡ (has_bit x.mask b || has_bit a.mask b)
    → (has_bit a.mask b ≡ true → IsFreeOf (ace_key a) (column t b))
    → IsJoinedColumn m (column (l ++ x ∷ t) b ++ column (a ∷ rest) b) (column (l ++ sum ∷ t) b ++ column rest b)
join_in m b l x sum a t rest clique cx cs ca kx ks union free =
    let h = join_first m b x sum a t rest clique cx cs ca kx ks union free in
    record {
      finds = ap (first_kind m) (split x (a ∷ rest))
          ∙ same_behind m (column l b) _ _ h.finds ∙ sym (ap (first_kind m) (split sum rest));
      fewer = omega (
        arith,
        ap length (split x (a ∷ rest)),
        ap length (split sum rest),
        h.fewer,
        length-append (column l b) (column (x ∷ t) b ++ column (a ∷ rest) b),
        length-append (column l b) (column (sum ∷ t) b ++ column rest b),
      );
    }
  where
    split : (y : Ace) (zs : List Ace) → column (l ++ y ∷ t) b ++ column zs b
        ≡ column l b ++ (column (y ∷ t) b ++ column zs b)
    split y zs = ap (λ v. v ++ column zs b) (column-append b l (y ∷ t))
        ∙ append_assoc (column l b) (column (y ∷ t) b) (column zs b)

-- a column that decides as an irreducible one and has no more keys is irreducible
pub short_irreducible : (c d : Column) → IsIrreducible c → HaveNames d → SameVerdicts c d → length d ≤ length c
    → IsIrreducible d
short_irreducible c d irr names same few l e r is less =
    let named : HaveNames (l ++ e ∷ r) = subst HaveNames is names in
    let fewest = irreducible_fewest c (l ++ r) (once_from_clean c (irreducible_clean c irr)) irr
    (all_append (λ f. HasName f.0) l r (all_left (λ f. HasName f.0) l (e ∷ r) named)
    (all_right (λ f. HasName f.0) l (e ∷ r) named).1) (λ s valid. same s valid ∙ less s valid) in
    absurd (omega (arith, fewest, few, ap length is, length-append l (e ∷ r), length-append l r))

-- ---- one principal, once in a column

-- a column in which each principal is once does not have the principal of a key again behind the key
once_behind : (l r : Column) (p : Principal) (k : Kind) → IsOnce (l ++ (p, k) ∷ r)
    → first_kind (is_either p p) r ≡ None
once_behind [] r p k once = once.0
once_behind (f ∷ l) r p k once = once_behind l r p k once.1

-- a column that lacks a principal does not have it
lacks : (l r : Column) (p : Principal) (k : Kind) → first_kind (is_either p p) (l ++ (p, k) ∷ r) ≡ None → ⊥
lacks [] r p k none =
    let some : first_kind (is_either p p) ((p, k) ∷ r) ≡ Some k = rw (either_first p p) refl in
    cc
lacks (f ∷ l) r p k none = go (is_either p p f.0) refl (lacks l r p k)
  where
    go : (t : Bool) → is_either p p f.0 ≡ t → (first_kind (is_either p p) (l ++ (p, k) ∷ r) ≡ None → ⊥) → ⊥
    go true e later =
        let some : first_kind (is_either p p) (f ∷ (l ++ (p, k) ∷ r)) ≡ Some f.1 = rw e refl in
        cc
    go false e later = later (rw e at none)

-- an irreducible column does not have a principal twice
pub not_twice : (l t r : Column) (p : Principal) (j k : Kind) → IsIrreducible (l ++ (p, j) ∷ (t ++ (p, k) ∷ r)) → ⊥
not_twice l t r p j k irr = lacks t r p k (once_behind l (t ++ (p, k) ∷ r) p j
    (once_from_clean _ (irreducible_clean _ irr)))

-- a key is free of the column of a list if it is free of each ACE that has the right
pub free_by_place : (b : ℕ) (e : ColumnKey) (t : List Ace)
    → ((p : ℕ) → p < length t → has_bit (ace_at_place t p).mask b ≡ true
    → conflicts (ace_key (ace_at_place t p)) e ≡ false)
    → IsFreeOf e (column t b)
free_by_place b e [] h = tt
free_by_place b e (a ∷ t) h =
    go (counts b a) refl (free_by_place b e t (λ p l has. h (suc p) (omega (arith, l)) has))
  where
    go : (s : Bool) → counts b a ≡ s → IsFreeOf e (column t b) → IsFreeOf e (column (a ∷ t) b)
    go true c rest = subst (IsFreeOf e) (sym (column_has b a t c))
        (h 0 (omega arith) (and_parts (has_bit a.mask b) _ c).0, rest)
    go false c rest = subst (IsFreeOf e) (sym (column_lacks b a t c)) rest
