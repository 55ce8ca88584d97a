-- The numbers of principals, and the tables before the first ACE.
use Rattle.acl_contain.specs.Tidied.{ace_at_place}
use Rattle.acl_contain.specs.internal.Joining.{AreEnds, AreJoined, ArePrincipalNumbers, IsEnd, has_key, is_standing, key_slot, number_at_place, number_of, right_slot}
use Rattle.acl_normal.proofs.Common.{Ace, AreWhoms, Bool, IsWhom, List, Principal, [], and_parts, ap, arith, eq-eqb, eqb-true, everyone, false, false≢true, flags_for, get_or-map, has_bit, is_among, length, length-map, map, not, principal_eq, principal_of, refl, replicate, slice_index_or, subst, suc, sym, takes_part, true, zero, ℕ, ◌&&◌, ◌+◌, ◌<◌, ◌∙◌, ◌∷◌, ◌≡◌, ◌≤◌}
use Rattle.acl_normal.proofs.Each.{zip_at, zip_length}
use Rattle.acl_normal.proofs.unique.Columns.{no_inherit_only}
use Rattle.acl_normal.proofs.unique.Names.{principal_eq_same}
use Rattle.acl_normal.specs.declared.comparison.placing.Whom.{Whom}
use Rattle.acl_normal.specs.declared.comparison.placing.Whom.TheVariants.{Everyone, Nobody, One}
use Rattle.acl_normal.specs.internal.comparison.FirstPlaces.{is_of}

-- ---- numbers

-- past the principals there is everyone
past_all : (ps : List Principal) (k : ℕ) → length ps ≤ k → slice_index_or ps k everyone ≡ everyone
past_all [] k l = refl
past_all (p ∷ ps) zero l = absurd (omega (arith, l))
past_all (p ∷ ps) (suc k) l = past_all ps k (omega (arith, l))

-- an ACE with the flags that its principal needs takes part
clear_part : (a : Ace) → a.flags ≡ flags_for (principal_of a) → takes_part a ≡ true
clear_part a clear = ap (λ f. not (has_bit f 3)) clear ∙ ap not (no_inherit_only (principal_of a))

-- the principal of an ACE that is of one principal, and not of everyone
one_named : (a : Ace) (p : Principal) → takes_part a ≡ true
    → (takes_part a && principal_eq (principal_of a) everyone) ≡ false → is_of a p ≡ true → principal_of a ≡ p
one_named a p part all hit = grind (arith, part, all, hit, principal_eq_same)

-- the principal that an ACE names is at its number, and everyone after the others
by_number : (ps : List Principal) (a : Ace) (w : Whom) → takes_part a ≡ true → IsWhom ps a w
    → principal_of a ≡ slice_index_or ps (number_of (length ps) w) everyone
by_number ps a Nobody part h = absurd (false≢true (sym h.part ∙ part))
by_number ps a (One k) part h =
    one_named a (slice_index_or ps k everyone) part h.all (h.hit k h.within ∙ eq-eqb k k refl)
by_number ps a Everyone part h =
    principal_eq_same (principal_of a) everyone (and_parts _ _ h.all).1
    ∙ sym (past_all ps (length ps) (omega arith))

-- the number is that of a principal or one more
number_within : (ps : List Principal) (a : Ace) (w : Whom) → IsWhom ps a w → number_of (length ps) w < length ps + 1
number_within ps a Nobody h = omega arith
number_within ps a (One k) h = omega (arith, h.within)
number_within ps a Everyone h = omega arith

-- ACEs of one principal have one number
one_number : (ps : List Principal) (a b : Ace) (v w : Whom) → takes_part a ≡ true → takes_part b ≡ true
    → IsWhom ps a v → IsWhom ps b w → principal_of a ≡ principal_of b
    → number_of (length ps) v ≡ number_of (length ps) w
one_number ps a b Nobody w pa pb h i same = absurd (false≢true (sym h.part ∙ pa))
one_number ps a b v Nobody pa pb h i same = absurd (false≢true (sym i.part ∙ pb))
one_number ps a b Everyone Everyone pa pb h i same = refl
one_number ps a b (One k) Everyone pa pb h i same =
    absurd (false≢true (sym h.all ∙ ap (λ t. t && principal_eq (principal_of a) everyone) pa
    ∙ ap (λ p. principal_eq p everyone) same ∙ (and_parts _ _ i.all).1))
one_number ps a b Everyone (One k) pa pb h i same =
    absurd (false≢true (sym i.all ∙ ap (λ t. t && principal_eq (principal_of b) everyone) pb
    ∙ ap (λ p. principal_eq p everyone) (sym same) ∙ (and_parts _ _ h.all).1))
one_number ps a b (One k) (One l) pa pb h i same =
    let p : Principal = slice_index_or ps l everyone in
    let of_b : is_of b p ≡ true = i.hit l i.within ∙ eq-eqb l l refl in
    let of_a : is_of a p ≡ true =
    (λ d. pa d && is_among (same d) (everyone ∷ p ∷ []))
    ∙ ap (λ t. t && is_among (principal_of b) (everyone ∷ p ∷ [])) (sym pb) ∙ of_b in
    sym (eqb-true l k (sym (h.hit l i.within) ∙ of_a))

-- the numbers of whom the ACEs name are numbers of their principals
pub are_numbers : (list : List Ace) (ps : List Principal) (ws : List Whom) (numbers : List ℕ)
    → ((i : ℕ) → i < length list → (ace_at_place list i).flags ≡ flags_for (principal_of (ace_at_place list i)))
    → AreWhoms ps list ws → numbers ≡ map (number_of (length ps)) ws → ArePrincipalNumbers list (length ps + 1) numbers
are_numbers list ps ws numbers clear whoms is = record {
  all = ap length is ∙ length-map ws (number_of (length ps)) ∙ sym count;
  within = λ i l. subst (λ n. n < length ps + 1) (sym (at i l)) (number_within ps (ace_at_place list i) (whom i)
      (named i l));
  same = λ i k l m e. by_number ps (ace_at_place list i) (whom i) (clear_part (ace_at_place list i) (clear i l))
      (named i l)
      ∙ ap (λ n. slice_index_or ps n everyone) (sym (at i l) ∙ e ∙ at k m)
      ∙ sym (by_number ps (ace_at_place list k) (whom k) (clear_part (ace_at_place list k) (clear k m)) (named k m));
  alike = λ i k l m e. at i l
      ∙ one_number ps (ace_at_place list i) (ace_at_place list k) (whom i) (whom k) (clear_part (ace_at_place list i)
      (clear i l))
      (clear_part (ace_at_place list k) (clear k m)) (named i l) (named k m) e
      ∙ sym (at k m);
}
  where
    whom : ℕ → Whom
    whom i = slice_index_or ws i Nobody

    count : length list ≡ length ws
    count = sym (zip_length (IsWhom ps) list ws whoms)

    named : (i : ℕ) → i < length list → IsWhom ps (ace_at_place list i) (whom i)
    named i l = zip_at (IsWhom ps) list ws i _ Nobody l whoms

    at : (i : ℕ) → i < length list → number_at_place numbers i ≡ number_of (length ps) (whom i)
    at i l = ap (λ v. number_at_place v i) is ∙ get_or-map (number_of (length ps)) ws i Nobody 0 (omega (
      arith,
      l,
      count,
    ))

-- ---- before the first ACE

-- each number of a table of zeros is zero
zero_at : (n i : ℕ) → number_at_place (replicate n 0) i ≡ 0
zero_at zero i = refl
zero_at (suc n) zero = refl
zero_at (suc n) (suc i) = zero_at n i

-- no ACE passes a test before the first one
no_end : (test : Ace → Bool) (end : ℕ) → end ≡ 0 → IsEnd test [] end
no_end test end none = record {
  within = omega (arith, none);
  last = λ p is. absurd (omega (arith, is, none));
  after = λ p past l. absurd (omega (arith, l));
}

-- tables of zeros have the ends before the first ACE
pub ends_before : (list : List Ace) (numbers : List ℕ) (m n : ℕ)
    → AreEnds list numbers [] (replicate m 0) (replicate n 0)
ends_before list numbers m n = record {
  of_keys = λ i l. no_end (has_key (ace_at_place list i)) _ (zero_at m (key_slot (number_at_place numbers i)
      (ace_at_place list i).kind));
  of_rights = λ b small kind users. no_end (is_standing b kind users) _ (zero_at n (right_slot b kind users));
}

-- before the first ACE, none is joined
pub joined_before : (list : List Ace) → AreJoined list 0 []
joined_before list = record {
  same = λ b s valid. refl;
  few = λ b. omega arith;
  count = omega arith;
  each = tt;
  no_join = λ i k less l same. absurd (omega (arith, l));
}
