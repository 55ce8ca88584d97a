-- Keys that go up in a column, past keys that do not conflict with them.
use Rattle.acl_normal.proofs.Common.{AllByRecursion, Bool, Column, ColumnKey, Principal, [], arith, conflicts, first_kind, refl, true, false, ◌++◌, ◌∙◌, ◌∷◌, ◌≡◌}
use Rattle.acl_normal.proofs.unique.FirstKind.{IsClique}
use Rattle.acl_normal.proofs.unique.Names.{kind_eq_same}

-- the key conflicts with none of a column
abbrev pub IsFreeOf : ColumnKey → Column → Type 0
IsFreeOf e c = AllByRecursion (λ f. conflicts f e ≡ false) c

-- columns that find the same behind a column find the same with it in front
pub same_behind : (m : Principal → Bool) (l c d : Column) → first_kind m c ≡ first_kind m d
    → first_kind m (l ++ c) ≡ first_kind m (l ++ d)
same_behind m [] c d h = h
same_behind m ((p, k) ∷ l) c d h = grind (arith, same_behind m l c d h)

-- a key goes up past one that does not conflict with it
past_one : (m : Principal → Bool) (f e : ColumnKey) (c : Column) → IsClique m → conflicts f e ≡ false
    → first_kind m (f ∷ e ∷ c) ≡ first_kind m (e ∷ f ∷ c)
past_one m f e c clique free = by (m f.0) refl (m e.0) refl
  where
    by : (s : Bool) → m f.0 ≡ s → (t : Bool) → m e.0 ≡ t → first_kind m (f ∷ e ∷ c) ≡ first_kind m (e ∷ f ∷ c)
    by false h t i = rw h refl
    by true h false i = rw (h, i) refl
    by true h true i = grind (arith, kind_eq_same f.1 e.1, clique f.0 e.0 h i, h, i, free)

-- a key goes up past those that do not conflict with it
pub goes_up : (m : Principal → Bool) (l : Column) (e : ColumnKey) (c : Column) → IsClique m → IsFreeOf e l
    → first_kind m (l ++ e ∷ c) ≡ first_kind m (e ∷ (l ++ c))
goes_up m [] e c clique free = refl
goes_up m (f ∷ l) e c clique free =
    same_behind m (f ∷ []) (l ++ e ∷ c) (e ∷ (l ++ c)) (goes_up m l e c clique free.1)
    ∙ past_one m f e (l ++ c) clique free.0

-- of two equal keys, one after the other, the second plays no part
pub twice : (m : Principal → Bool) (e : ColumnKey) (c : Column) → first_kind m (e ∷ e ∷ c) ≡ first_kind m (e ∷ c)
twice m e c = grind arith
