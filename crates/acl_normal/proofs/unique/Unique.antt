-- Normal lists that grant the same are equal.
use Rattle.acl_normal.proofs.Common.{Ace, Bool, HasNoEmptyMask, HasNormalFlags, IsAlike, IsNormal, IsOnce, List, None, Principal, SameGrants, Some, [], ace_key, all_rights, ap, arith, column, compare_keys, false, false_from_ne_true, false≢true, first_kind, flags_for, has_bit, is_either, is_free, is_le, principal_of, refl, same_set, subst, sym, true, who_for, ℕ, ◌∙◌, ◌∷◌, ◌≡◌}
use Rattle.std.proofs.lemmas.Bool.{true_from_ne_false}
use Rattle.acl_normal.specs.Normal.{IsOrdered}
use Rattle.acl_normal.proofs.unique.Names.{either_first, overlaps_itself}
use Rattle.acl_normal.proofs.unique.Bits.{no_bits}
use Rattle.acl_normal.proofs.unique.Irreducible.{irreducible_clean}
use Rattle.acl_normal.proofs.unique.Free.{alike_rest, head_is_free, once_from_clean, same_free}
use Rattle.acl_normal.proofs.unique.Keys.{key_antisymmetric}
use Rattle.acl_normal.proofs.Whoms.{who_is}
use Rattle.acl_normal.proofs.unique.IrreducibleLists.{alike_columns, irreducible_column}
use Rattle.acl_normal.proofs.unique.Columns.{column_lacking, column_with}

-- ACEs with normal flags, one key and one mask are equal
aces_same : (a b : Ace) → a.flags ≡ flags_for (principal_of a) → b.flags ≡ flags_for (principal_of b)
    → ace_key a ≡ ace_key b → a.mask ≡ b.mask → a ≡ b
aces_same a b fa fb keys masks =
    let principals : principal_of a ≡ principal_of b = ap (λ k. k.0) keys in
    let kinds : a.kind ≡ b.kind = ap (λ k. k.1) keys in
    let flags : a.flags ≡ b.flags = fa ∙ ap (λ v. flags_for v) principals ∙ sym fb in
    let whos : a.who ≡ b.who = sym (who_is a) ∙ ap (λ v. who_for v) principals ∙ who_is b in
    λ i. record { kind = kinds i; flags = flags i; mask = masks i; who = whos i }

-- each column has each principal once, and the list is in order, with normal flags and no empty mask
pub record IsReady (xs : List Ace) : Type 0 where
  pub once : (b : ℕ) → IsOnce (column xs b)
  pub ordered : IsOrdered xs
  pub flags : HasNormalFlags xs
  pub masks : HasNoEmptyMask xs

-- a list that is ready stays so without its first ACE
ready_rest : (a : Ace) (xs : List Ace) → IsReady (a ∷ xs) → IsReady xs
ready_rest a xs h = record {
  once = λ b. at b (has_bit a.mask b) refl;
  ordered = h.ordered.2;
  flags = h.flags.1;
  masks = h.masks.1;
}
  where
    at : (b : ℕ) (t : Bool) → has_bit a.mask b ≡ t → IsOnce (column xs b)
    at b true e = (subst (λ c. IsOnce c) (column_with b a xs h.flags.0 e) (h.once b)).1
    at b false e = subst (λ c. IsOnce c) (column_lacking b a xs h.flags.0 e) (h.once b)

-- an empty list is alike no list with a bit
not_alike_nothing : (a : Ace) (xs : List Ace) → IsReady (a ∷ xs) → ((b : ℕ) → IsAlike [] (column (a ∷ xs) b)) → ⊥
not_alike_nothing a xs h alike =
    h.masks.0 (no_bits a.mask (λ b. false_from_ne_true (has_bit a.mask b) (λ e. absurd (none b e))))
  where
    none : (b : ℕ) → has_bit a.mask b ≡ true → ⊥
    none b e =
        let p : Principal = principal_of a in
        let both : first_kind (is_either p p) [] ≡ first_kind (is_either p p) (ace_key a ∷ column xs b) =
        subst (λ c. first_kind (is_either p p) [] ≡ first_kind (is_either p p) c)
        (column_with b a xs h.flags.0 e) (alike b p p (overlaps_itself p)) in
        let found : first_kind (is_either p p) (ace_key a ∷ column xs b) ≡ Some a.kind = rw (either_first p p) refl in
        absurd (grind arith)

-- the first key of a list is at most that of an alike list
least_key : (a b : Ace) (xs ys : List Ace) → IsReady (a ∷ xs) → IsReady (b ∷ ys)
    → ((i : ℕ) → IsAlike (column (a ∷ xs) i) (column (b ∷ ys) i)) → is_le (compare_keys (ace_key a) (ace_key b)) ≡ true
least_key a b xs ys ha hb alike =
    true_from_ne_false _ (λ worse. hb.masks.0
    (no_bits b.mask (λ i. false_from_ne_true (has_bit b.mask i)
    (λ has. false≢true (sym worse ∙ ha.ordered.0 (ace_key b) i (free i has))))))
  where
    free : (i : ℕ) → has_bit b.mask i ≡ true → is_free (column (a ∷ xs) i) (ace_key b) ≡ true
    free i has =
        same_free (column (a ∷ xs) i) (column (b ∷ ys) i) (ace_key b) (ha.once i) (hb.once i) (alike i)
        ∙ subst (λ c. is_free c (ace_key b) ≡ true) (sym (column_with i b ys hb.flags.0 has))
        (head_is_free (ace_key b) (column ys i))

-- ordered lists with alike columns are equal
one_order : (xs ys : List Ace) → IsReady xs → IsReady ys → ((i : ℕ) → IsAlike (column xs i) (column ys i)) → xs ≡ ys
one_order [] [] hx hy alike = refl
one_order [] (b ∷ ys) hx hy alike = absurd (not_alike_nothing b ys hy alike)
one_order (a ∷ xs) [] hx hy alike = absurd (not_alike_nothing a xs hx (λ i p q o. sym (alike i p q o)))
one_order (a ∷ xs) (b ∷ ys) hx hy alike =
    let keys : ace_key a ≡ ace_key b =
    key_antisymmetric (ace_key a) (ace_key b) (least_key a b xs ys hx hy alike)
    (least_key b a ys xs hy hx (λ i p q o. sym (alike i p q o))) in
    let masks : a.mask ≡ b.mask = same_set a.mask b.mask (λ i.
    hx.ordered.1 i
    ∙ same_free (column (a ∷ xs) i) (column (b ∷ ys) i) (ace_key a) (hx.once i) (hy.once i) (alike i)
    ∙ ap (λ k. is_free (column (b ∷ ys) i) k) keys
    ∙ sym (hy.ordered.1 i)) in
    let heads : a ≡ b = aces_same a b hx.flags.0 hy.flags.0 keys masks in
    let rests : xs ≡ ys =
    one_order xs ys (ready_rest a xs hx) (ready_rest b ys hy) (λ i. rest i heads (has_bit a.mask i) refl) in
    λ i. heads i ∷ rests i
  where
    rest : (i : ℕ) → a ≡ b → (t : Bool) → has_bit a.mask i ≡ t → IsAlike (column xs i) (column ys i)
    rest i heads false e =
        let f : has_bit b.mask i ≡ false = sym (ap (λ v. has_bit v.mask i) heads) ∙ e in
        λ p q o. ap (first_kind (is_either p q)) (sym (column_lacking i a xs hx.flags.0 e)) ∙ alike i p q o
        ∙ ap (first_kind (is_either p q)) (column_lacking i b ys hy.flags.0 f)
    rest i heads true e =
        let f : has_bit b.mask i ≡ true = sym (ap (λ v. has_bit v.mask i) heads) ∙ e in
        let here : IsOnce (ace_key a ∷ column xs i) =
        subst (λ c. IsOnce c) (column_with i a xs hx.flags.0 e) (hx.once i) in
        let there : IsOnce (ace_key b ∷ column ys i) =
        subst (λ c. IsOnce c) (column_with i b ys hy.flags.0 f) (hy.once i) in
        let key : ace_key b ≡ ace_key a = ap (λ v. ace_key v) (sym heads) in
        alike_rest (principal_of a) a.kind (column xs i) (column ys i) here.0
        (subst (λ k. first_kind (is_either k.0 k.0) (column ys i) ≡ None) key there.0)
        (λ p q o. ap (first_kind (is_either p q)) (sym (column_with i a xs hx.flags.0 e)) ∙ alike i p q o
        ∙ ap (first_kind (is_either p q)) (column_with i b ys hy.flags.0 f ∙ ap (λ k. k ∷ column ys i) key))

-- a normal list is ready
normal_ready : (xs : List Ace) → IsNormal xs → IsReady xs
normal_ready xs h = record {
  once = λ b. once_from_clean (column xs b) (irreducible_clean (column xs b) (irreducible_column xs b h.irreducible));
  ordered = h.ordered;
  flags = h.flags;
  masks = h.irreducible.no_empty_mask;
}

-- normal lists with the same grants are equal
pub normal_unique : (xs ys : List Ace) → IsNormal xs → IsNormal ys → SameGrants all_rights xs ys → xs ≡ ys
normal_unique xs ys hx hy same =
    one_order xs ys (normal_ready xs hx) (normal_ready ys hy) (alike_columns xs ys hx.irreducible hy.irreducible same)
