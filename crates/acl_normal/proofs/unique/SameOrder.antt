-- Irreducible lists that grant the same: the same bits, in the same order.
use Rattle.acl_normal.proofs.Common.{Ace, Bool, Column, ColumnKey, Has, IsAlike, IsIrreducibleList, IsOnce, Kind, List, None, Principal, SameGrants, Some, [], all_rights, and_parts, ap, append_assoc, arith, column, conflicts, false, false_from_ne_true, first_kind, is_either, kind_eq, may_overlap, not, or_right, principal_eq, refl, same_Some, subst, sym, true, ℕ, ⊎_elim, ◌++◌, ◌∙◌, ◌∷◌, ◌≡◌}
use Rattle.acl_normal.specs.Laws.{Precedes}
use Rattle.acl_normal.proofs.unique.Names.{either_first, kind_eq_itself, overlaps_itself, principal_eq_itself}
use Rattle.acl_normal.proofs.unique.FirstKind.{SplitsAt, none_within, splits_at}
use Rattle.acl_normal.proofs.unique.Irreducible.{irreducible_clean, either_is, either_same}
use Rattle.acl_normal.proofs.unique.Shorter.{once_before}
use Rattle.acl_normal.proofs.unique.Free.{once_from_clean}
use Rattle.acl_normal.proofs.unique.SameKeys.{skip_to, stop_at}
use Rattle.acl_normal.proofs.unique.IrreducibleLists.{alike_columns, irreducible_column}

-- a key of a column without repetition is the first of its principal
pub once_has : (c : Column) (p : Principal) (k : Kind) → IsOnce c → Has c (p, k) → first_kind (is_either p p) c ≡ Some k
once_has c p k once h =
    let none = once_before h.before p k h.after (subst (λ v. IsOnce v) h.is once) in
    ap (first_kind (is_either p p)) h.is ∙ stop_at (is_either p p) h.before h.after p k none (either_first p p)

-- the first key of a principal is a key
pub has_once : (c : Column) (p : Principal) (k : Kind) → first_kind (is_either p p) c ≡ Some k → Has c (p, k)
has_once c p k h =
    let s = splits_at (is_either p p) c k h in
    let same : s.principal ≡ p = either_same p s.principal s.passes in
    record { before = s.before; after = s.after; is = s.is ∙ ap (λ v. s.before ++ (v, k) ∷ s.after) same }

-- irreducible lists that grant the same have the same bits with the same kinds
pub same_bits : (xs ys : List Ace) → IsIrreducibleList xs → IsIrreducibleList ys → SameGrants all_rights xs ys
    → (b : ℕ) (e : ColumnKey) → Has (column xs b) e → Has (column ys b) e
same_bits xs ys ix iy same b e h =
    has_once (column ys b) e.0 e.1
    (sym (alike_columns xs ys ix iy same b e.0 e.0 (overlaps_itself e.0))
    ∙ once_has (column xs b) e.0 e.1 (once_from_clean _ (irreducible_clean _ (irreducible_column xs b ix))) h)

-- a test that finds nothing in two columns together finds nothing in the first
none_left : (m : Principal → Bool) (l r : Column) → first_kind m (l ++ r) ≡ None → first_kind m l ≡ None
none_left m [] r h = refl
none_left m ((p, k) ∷ l) r h = grind (arith, none_left m l r)

-- a column that lacks each of two principals lacks both
lacks_both : (p q : Principal) (c : Column) → first_kind (is_either p p) c ≡ None → first_kind (is_either q q) c ≡ None
    → first_kind (is_either p q) c ≡ None
lacks_both p q [] np nq = refl
lacks_both p q ((x, j) ∷ c) np nq = grind (arith, lacks_both p q c)

-- keys that conflict do not have one kind
conflict_kinds : (p q : Principal) (k j : Kind) → conflicts (p, k) (q, j) ≡ true → k ≡ j → ⊥
conflict_kinds p q k j h e = grind (arith, kind_eq_itself)

-- keys that conflict, the first before the second in one of two alike columns that have each principal once
record AreInTurn (c d : Column) (p q : Principal) (k j : Kind) : Type 0 where
  once : IsOnce c
  once_there : IsOnce d
  alike : IsAlike c d
  conflict : conflicts (p, k) (q, j) ≡ true
  turn : Precedes c (p, k) (q, j)

-- the column is what comes before the second key, that key, and the rest
second_is : {c d : Column} {p q : Principal} {k j : Kind} (h : AreInTurn c d p q k j)
    → c ≡ (h.turn.before ++ (p, k) ∷ h.turn.between) ++ (q, j) ∷ h.turn.after
second_is {c} {d} {p} {q} {k} {j} h =
    h.turn.is ∙ sym (append_assoc h.turn.before ((p, k) ∷ h.turn.between) ((q, j) ∷ h.turn.after))

-- the alike column has the first key
first_there : {c d : Column} {p q : Principal} {k j : Kind} → AreInTurn c d p q k j
    → first_kind (is_either p p) d ≡ Some k
first_there {c} {d} {p} {q} {k} {j} h =
    sym (h.alike p p (overlaps_itself p))
    ∙ once_has c p k h.once
    (record { before = h.turn.before; after = h.turn.between ++ (q, j) ∷ h.turn.after; is = h.turn.is })

-- the alike column has the second key
second_there : {c d : Column} {p q : Principal} {k j : Kind} → AreInTurn c d p q k j
    → first_kind (is_either q q) d ≡ Some j
second_there {c} {d} {p} {q} {k} {j} h =
    sym (h.alike q q (overlaps_itself q))
    ∙ once_has c q j h.once
    (record { before = h.turn.before ++ (p, k) ∷ h.turn.between; after = h.turn.after; is = second_is h })

-- of the two principals, the alike column has the first one's key first
either_there : {c d : Column} {p q : Principal} {k j : Kind} → AreInTurn c d p q k j
    → first_kind (is_either p q) d ≡ Some k
either_there {c} {d} {p} {q} {k} {j} h =
    sym (h.alike p q (and_parts (may_overlap p q) (not (kind_eq k j)) h.conflict).0)
    ∙ ap (first_kind (is_either p q)) h.turn.is
    ∙ stop_at (is_either p q) h.turn.before (h.turn.between ++ (q, j) ∷ h.turn.after) p k
    (lacks_both p q h.turn.before no_first no_second) (either_first p q)
  where
    no_first : first_kind (is_either p p) h.turn.before ≡ None
    no_first =
        once_before h.turn.before p k (h.turn.between ++ (q, j) ∷ h.turn.after) (subst (λ v. IsOnce v) h.turn.is h.once)

    no_second : first_kind (is_either q q) h.turn.before ≡ None
    no_second =
        none_left (is_either q q) h.turn.before ((p, k) ∷ h.turn.between)
        (once_before (h.turn.before ++ (p, k) ∷ h.turn.between) q j h.turn.after
        (subst (λ v. IsOnce v) (second_is h) h.once))

-- the two principals are not the same
are_two : {c d : Column} {p q : Principal} {k j : Kind} → AreInTurn c d p q k j → p ≡ q → ⊥
are_two {c} {d} {p} {q} {k} {j} h e =
    conflict_kinds p q k j h.conflict
    (same_Some _ _ (sym (first_there h) ∙ ap (λ v. first_kind (is_either v v) d) e ∙ second_there h))

-- the first key of the two principals in the alike column is not the second one's
not_second : {c d : Column} {p q : Principal} {k j : Kind} → AreInTurn c d p q k j
    → (s : SplitsAt (is_either p q) d k) → s.principal ≡ q → ⊥
not_second {c} {d} {p} {q} {k} {j} h s e =
    conflict_kinds p q k j h.conflict (same_Some _ _ (sym kind ∙ second_there h))
  where
    kind : first_kind (is_either q q) d ≡ Some k
    kind = once_has d q k h.once_there (record {
      before = s.before;
      after = s.after;
      is = s.is ∙ ap (λ v. s.before ++ (v, k) ∷ s.after) e;
    })

-- if the first key of the two principals is the first one's, the second one's key comes after it
second_after : {c d : Column} {p q : Principal} {k j : Kind} → AreInTurn c d p q k j
    → (s : SplitsAt (is_either p q) d k) → s.principal ≡ p → Has s.after (q, j)
second_after {c} {d} {p} {q} {k} {j} h s e =
    has_once s.after q j
    (sym (skip_to (is_either q q) s.before s.after s.principal k none skip)
    ∙ ap (first_kind (is_either q q)) (sym s.is) ∙ second_there h)
  where
    is_second : (x : Principal) → is_either q q x ≡ true → principal_eq x q ≡ true
    is_second x t = subst (λ v. principal_eq v q ≡ true) (sym (either_same q x t)) (principal_eq_itself q)

    none : first_kind (is_either q q) s.before ≡ None
    none =
        none_within (is_either p q) (is_either q q) s.before s.none
        (λ x t. or_right (principal_eq x p) (principal_eq x q) (is_second x t))

    skip : is_either q q s.principal ≡ false
    skip = false_from_ne_true _ (λ t. are_two h (sym e ∙ either_same q s.principal t))

-- if two keys conflict, the one that comes first in a column does in an alike column
precedes_alike : {c d : Column} {p q : Principal} {k j : Kind} → AreInTurn c d p q k j → Precedes d (p, k) (q, j)
precedes_alike {c} {d} {p} {q} {k} {j} h =
    let s = splits_at (is_either p q) d k (either_there h) in
    ⊎_elim (λ e. precedes s e (second_after h s e)) (λ e. absurd (not_second h s e))
    (either_is p q s.principal s.passes)
  where
    precedes : (s : SplitsAt (is_either p q) d k) → s.principal ≡ p → Has s.after (q, j) → Precedes d (p, k) (q, j)
    precedes s e t = record {
      before = s.before;
      between = t.before;
      after = t.after;
      is = s.is ∙ ap (λ v. s.before ++ (v, k) ∷ s.after) e ∙ ap (λ v. s.before ++ (p, k) ∷ v) t.is;
    }

-- irreducible lists that grant the same have the keys that conflict in the same order
pub same_order : (xs ys : List Ace) → IsIrreducibleList xs → IsIrreducibleList ys → SameGrants all_rights xs ys
    → (b : ℕ) (e f : ColumnKey) → conflicts e f ≡ true → Precedes (column xs b) e f → Precedes (column ys b) e f
same_order xs ys ix iy same b e f conflict h =
    precedes_alike (record {
      once = once_from_clean _ (irreducible_clean _ (irreducible_column xs b ix));
      once_there = once_from_clean _ (irreducible_clean _ (irreducible_column ys b iy));
      alike = alike_columns xs ys ix iy same b;
      conflict = conflict;
      turn = h;
    })
