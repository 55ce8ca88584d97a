-- The list that is left, without its empty ACEs, and what is emitted from it.
use Rattle.acl_normal.proofs.Common.{[], Ace, ace_key, all_rights, ap, arith, bit_at-zero, Bool, Column, column, cond, count_left, counts, eqb-true, false, first_kind, has_bit, HasMasks, is_either, IsAlike, IsEmission, IsIrreducibleList, IsNormal, IsOnce, IsQuiet, Kind, left, length, List, None, Principal, principal_eq, refl, SameGrants, Some, subst, suc, sym, true, without_principal, zero, ℕ, ◌==◌, ◌∙◌, ◌∷◌, ◌≡◌}
use mathlib.Core.Logic.Iff.{symm, trans}
use Rattle.acl_normal.proofs.unique.Names.{overlaps_itself, either_first, principal_eq_itself, principal_eq_same}
use Rattle.acl_normal.proofs.unique.ListColumns.{same_grants_from_columns}
use Rattle.acl_normal.proofs.unique.Unique.{normal_unique}
use Rattle.acl_normal.proofs.unique.Normal.{emission_of_irreducible, quiet_flags, column_quiet}
use Rattle.acl_normal.proofs.unique.Invariant.{alike_without}
use Rattle.acl_normal.proofs.unique.Shorter.{without_absent, once_without}
use Rattle.acl_normal.proofs.unique.Columns.{column_first}
use Rattle.acl_normal.proofs.unique.IrreducibleLists.{no_other_bits}

-- the columns of a list are the same without its empty ACEs
pub column_left : (b : ℕ) (xs : List Ace) → column (left xs) b ≡ column xs b
column_left b [] = refl
column_left b (a ∷ xs) = go (a.mask == 0) refl (column_left b xs)
  where
    go : (t : Bool) → (a.mask == 0) ≡ t → column (left xs) b ≡ column xs b
        → column (left (a ∷ xs)) b ≡ column (a ∷ xs) b
    go true e ih =
        let none : has_bit a.mask b ≡ false =
        ap (λ v. has_bit v b) (eqb-true a.mask 0 e) ∙ ap (λ v. v == 1) (bit_at-zero b) in
        rw (e, none) ih
    go false e ih =
        rw e (column_first b a (left xs) ∙ ap (λ c. cond (counts b a) (ace_key a ∷ c) c) ih
        ∙ sym (column_first b a xs))

-- what is left of a quiet list is quiet
pub quiet_left : (xs : List Ace) → IsQuiet xs → IsQuiet (left xs)
quiet_left [] q = tt
quiet_left (a ∷ xs) q = grind (arith, quiet_left xs q.1, q.0)

-- what is emitted from a list is also emitted from the list without its empty ACEs
pub emission_left : (xs ns : List Ace) → IsEmission xs ns → IsEmission (left xs) ns
emission_left xs ns e = record {
  alike = λ b. subst (λ c. IsAlike c (column ns b)) (sym (column_left b xs)) (e.alike b);
  once = e.once;
  ordered = e.ordered;
  flags = e.flags;
  masks = e.masks;
}

-- a list grants the same without its empty ACEs
pub same_left : (xs : List Ace) → SameGrants all_rights xs (left xs)
same_left xs = same_grants_from_columns xs (left xs) (λ b inside s valid. rw (column_left b xs) refl)

-- a column that is alike the empty column is empty
pub alike_nothing : (c : Column) → IsAlike [] c → c ≡ []
alike_nothing [] a = refl
alike_nothing ((p, k) ∷ c) a =
    let some : first_kind (is_either p p) ((p, k) ∷ c) ≡ Some k = rw (either_first p p) refl in
    let none = a p p (overlaps_itself p) in
    cc

-- the masks of a quiet list are sets of rights, if only the columns of rights have keys
pub masks_of_quiet : (xs : List Ace) → IsQuiet xs → ((b : ℕ) → has_bit all_rights b ≡ false → column xs b ≡ [])
    → HasMasks xs
masks_of_quiet [] q h = tt
masks_of_quiet (a ∷ xs) q h =
    ((λ b has. inside b has (has_bit all_rights b) refl), masks_of_quiet xs q.1 (λ b out. rest b (h b out)))
  where
    inside : (b : ℕ) → has_bit a.mask b ≡ true → (t : Bool) → has_bit all_rights b ≡ t → has_bit all_rights b ≡ true
    inside b has true e = e
    inside b has false e = cc (column_quiet b a xs q.0 has, h b e)

    rest : (b : ℕ) → column (a ∷ xs) b ≡ [] → column xs b ≡ []
    rest b e = go (counts b a) refl
      where
        go : (t : Bool) → counts b a ≡ t → column xs b ≡ []
        go true g = cc (rw g at e)
        go false g = rw g at e

-- what is emitted from a list that is irreducible without its empty ACEs has only rights
pub has_masks : (xs ns : List Ace) → IsIrreducibleList (left xs) → IsEmission xs ns → HasMasks ns
has_masks xs ns irr e =
    masks_of_quiet ns (quiet_flags ns e.flags) (λ b out. alike_nothing (column ns b)
    (subst (λ c. IsAlike c (column ns b)) (no_other_bits (left xs) b irr out) ((emission_left xs ns e).alike b)))

-- what is emitted from a list that is irreducible without its empty ACEs is normal and grants the same
pub left_normal : (xs ns : List Ace) → IsIrreducibleList (left xs) → IsEmission xs ns
    → IsNormal ns × SameGrants all_rights xs ns
left_normal xs ns irr e =
    emission_of_irreducible xs (left xs) ns irr (same_left xs) (emission_left xs ns e) (has_masks xs ns irr e)

-- what is emitted from such a list is the only normal list that grants the same
pub left_only : (xs ns : List Ace) → IsIrreducibleList (left xs) → IsEmission xs ns → (ms : List Ace) → IsNormal ms
    → SameGrants all_rights xs ms → ms ≡ ns
left_only xs ns irr e ms normal same =
    let both = left_normal xs ns irr e in
    normal_unique ms ns normal both.0 (λ s valid request within. trans (symm (same s valid request within))
    (both.1 s valid request within))

-- a column without one of its principals has one key less
one_less : (p : Principal) (d : Column) (k : Kind) → IsOnce d → first_kind (is_either p p) d ≡ Some k
    → length d ≡ suc (length (without_principal p d))
one_less p [] k once h = cc
one_less p ((q, j) ∷ d) k once h = go (principal_eq q p) refl (one_less p d k once.1)
  where
    go : (t : Bool) → principal_eq q p ≡ t
        → (first_kind (is_either p p) d ≡ Some k → length d ≡ suc (length (without_principal p d)))
        → length ((q, j) ∷ d) ≡ suc (length (without_principal p ((q, j) ∷ d)))
    go true e ih =
        let alone : without_principal p d ≡ d =
        without_absent p d (subst (λ v. first_kind (is_either v v) d ≡ None) (principal_eq_same q p e) once.0) in
        rw (e, alone) refl
    go false e ih = rw e (ap suc (ih (rw e at h)))

-- alike columns without repetition are of one length
pub alike_length : (c d : Column) → IsOnce c → IsOnce d → IsAlike c d → length c ≡ length d
alike_length [] d oc od a = sym (ap length (alike_nothing d a))
alike_length ((p, k) ∷ c) d oc od a =
    let here : first_kind (is_either p p) ((p, k) ∷ c) ≡ Some k = rw (either_first p p) refl in
    let there : first_kind (is_either p p) d ≡ Some k = sym (a p p (overlaps_itself p)) ∙ here in
    let rest : without_principal p ((p, k) ∷ c) ≡ c = rw (principal_eq_itself p) (without_absent p c oc.0) in
    let less : IsAlike c (without_principal p d) =
    subst (λ v. IsAlike v (without_principal p d)) rest (alike_without p ((p, k) ∷ c) d a) in
    omega (arith, alike_length c (without_principal p d) oc.1 (once_without p d od) less, one_less p d k od there)

-- a list and what is emitted from the list have the same number of keys in all
pub alike_count : (n : ℕ) (xs ns : List Ace) → ((b : ℕ) → IsOnce (column xs b)) → IsEmission xs ns
    → count_left n ns ≡ count_left n xs
alike_count zero xs ns once e = refl
alike_count (suc n) xs ns once e =
    omega (arith, alike_count n xs ns once e, alike_length (column xs n) (column ns n) (once n) (e.once n) (e.alike n))
