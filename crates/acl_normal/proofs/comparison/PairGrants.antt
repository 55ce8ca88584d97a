-- What two principals are granted, by what each is granted alone and which comes first.
use Rattle.acl_normal.proofs.Common.{[], Ace, AgreesAt, AllByRecursion, AllZip, and_parts, ap, append_assoc, arith, Bool, cond, everyone, false, FindsFirst, first_place, has_bit, inl, inr, inverts, inverts_any, is_allow, is_granted_to, is_user, is_users, IsPlacing, List, may_overlap, nat_lt, None, not, Option, or_cases, or_parts, principal_pairs, partners, Principal, principal_eq, principal_of, refl, SameAlone, Placing, subst, sym, takes_part, true, user, ℕ, ◌&&◌, ◌++◌, ◌+◌, ◌||◌, ◌∙◌, ◌∷◌, ◌≡◌, ◌⊎◌}
use Rattle.std.proofs.lemmas.Bool.{cond_both}
use Rattle.std.proofs.lemmas.Bool.Decides.{nat_tests}
use Rattle.acl_normal.proofs.unique.Names.{bytes_eq_same}
use Rattle.acl_normal.proofs.comparison.SetEvaluation.{granted_to-cons}
use Rattle.acl_normal.proofs.comparison.SetSearchLemmas.{found_right}
use Rattle.acl_normal.proofs.comparison.Directions.{both_differ, differ_moved}
use Rattle.acl_normal.specs.internal.comparison.Directions.{differ_in}
use Rattle.acl_normal.specs.internal.comparison.FirstPlaces.{Agrees, IsFirst, earlier_allows}
use Rattle.acl_normal.specs.internal.comparison.SetSearch.{AlikeAt}
use Rattle.acl_normal.specs.declared.comparison.direction.Direction.{Direction}
use Rattle.acl_normal.specs.declared.comparison.placing.First.{First}

-- a choice between equal values is equal
cond_same : (l : Bool) {x v y w : Bool} → x ≡ v → y ≡ w → cond l x y ≡ cond l v w
cond_same l h i = grind arith

-- if a pair is granted what its first principal is granted, so it is with one more ACE in front
pair_behind : (t e x y k g gp gq : Bool) (hp hq : ℕ) → g ≡ cond (nat_lt hq hp) gq gp
    → cond (t && (e || (x || (y || false)))) k g
    ≡ cond (nat_lt (cond (t && (e || (y || false))) 0 (hq + 1)) (cond (t && (e || (x || false))) 0 (hp + 1)))
    (cond (t && (e || (y || false))) k gq) (cond (t && (e || (x || false))) k gp)
pair_behind t e x y k g gp gq hp hq h = grind (arith, nat_tests)

-- a pair is granted what the principal with the earlier place is granted
pub pair_granted : (xs : List Ace) (p q : Principal) (b : ℕ)
    → is_granted_to xs (p ∷ q ∷ []) b ≡ cond (nat_lt (first_place (q ∷ []) b xs) (first_place (p ∷ []) b xs))
    (is_granted_to xs (q ∷ []) b) (is_granted_to xs (p ∷ []) b)
pair_granted [] p q b = refl
pair_granted (a ∷ xs) p q b =
    granted_to-cons a xs (p ∷ q ∷ []) b
    ∙ pair_behind (has_bit a.mask b && takes_part a) (principal_eq (principal_of a) everyone)
    (principal_eq (principal_of a) p) (principal_eq (principal_of a) q) (is_allow a.kind)
    (is_granted_to xs (p ∷ q ∷ []) b) (is_granted_to xs (p ∷ []) b) (is_granted_to xs (q ∷ []) b)
    (first_place (p ∷ []) b xs) (first_place (q ∷ []) b xs) (pair_granted xs p q b)
    ∙ sym (cond_same (nat_lt (first_place (q ∷ []) b (a ∷ xs)) (first_place (p ∷ []) b (a ∷ xs)))
    (granted_to-cons a xs (q ∷ []) b) (granted_to-cons a xs (p ∷ []) b))

-- two users that may overlap are one user
pub both_users : (p q : Principal) → is_user p ≡ true → is_user q ≡ true → may_overlap p q ≡ true → p ≡ q
both_users (user a) (user b) h i o = ap user (bytes_eq_same a b o)
both_users (user a) _ h i o = cc
both_users _ q h i o = cc

-- two principals overlap if one of them is no user
pub not_both_users : (p q : Principal) → (is_user p && is_user q) ≡ false → may_overlap p q ≡ true
not_both_users p q h = grind arith

-- what is granted to a pair is what the first ACE with the earlier place says
pair_is : (xs : List Ace) (b : ℕ) (p q : Principal) (f g : First) → IsFirst xs b p f → IsFirst xs b q g
    → is_granted_to xs (p ∷ q ∷ []) b ≡ earlier_allows f g
pair_is xs b p q f g h i = pair_granted xs p q b ∙ rw (← h.place, ← i.place, ← h.allows, ← i.allows) refl

-- a principal that is in a pair twice is granted what it is granted alone
pub pair_alone : (xs : List Ace) (p : Principal) (b : ℕ) → is_granted_to xs (p ∷ p ∷ []) b ≡ is_granted_to xs (p ∷ []) b
pair_alone xs p b = pair_granted xs p p b
    ∙ one_value (nat_lt (first_place (p ∷ []) b xs) (first_place (p ∷ []) b xs)) (is_granted_to xs (p ∷ []) b)
  where
    one_value : (t v : Bool) → cond t v v ≡ v
    one_value t v = grind arith

-- the lists do not differ for a pair that overlaps and is not inverted
pub not_inverted : (way : Direction) (xs ys : List Ace) (b : ℕ) (p q : Principal) (r s : Placing)
    → IsPlacing xs ys b p r
    → IsPlacing xs ys b q s → SameAlone way r → inverts way r s ≡ false → may_overlap p q ≡ true
    → AlikeAt way xs ys (p ∷ q ∷ []) b
not_inverted way xs ys b p q r s h i u e o = go (is_users r.class && is_users s.class) refl
  where
    go : (t : Bool) → (is_users r.class && is_users s.class) ≡ t → AlikeAt way xs ys (p ∷ q ∷ []) b
    go true k =
        let users = and_parts (is_users r.class) (is_users s.class) k in
        let same : p ≡ q = both_users p q (sym h.class ∙ users.0) (sym i.class ∙ users.1) o in
        subst (λ v. AlikeAt way xs ys (p ∷ v ∷ []) b) same
        (differ_moved way (pair_alone xs p b ∙ sym h.here.allows) (pair_alone ys p b ∙ sym h.there.allows) u)
    go false k = differ_moved way (pair_is xs b p q r.here s.here h.here i.here)
        (pair_is ys b p q r.there s.there h.there i.there)
        (sym (ap (λ t. not t && differ_in way (earlier_allows r.here s.here) (earlier_allows r.there s.there)) k) ∙ e)

-- the principals of an inverted pair overlap, and the lists differ for the pair
pub inverted_differ : (way : Direction) (xs ys : List Ace) (b : ℕ) (p q : Principal) (r s : Placing)
    → IsPlacing xs ys b p r → IsPlacing xs ys b q s → inverts way r s ≡ true
    → (may_overlap p q ≡ true) × (AlikeAt way xs ys (p ∷ q ∷ []) b → ⊥)
inverted_differ way xs ys b p q r s h i e =
    let parts = and_parts (not (is_users r.class && is_users s.class))
    (differ_in way (earlier_allows r.here s.here) (earlier_allows r.there s.there)) e in (
      not_both_users p q (rw (← h.class, ← i.class) (not_true (is_users r.class && is_users s.class) parts.0)),
      both_differ way _ _ (differ_moved way (pair_is xs b p q r.here s.here h.here i.here)
          (pair_is ys b p q r.there s.there h.there i.there) parts.1),
    )
  where
    not_true : (t : Bool) → not t ≡ true → t ≡ false
    not_true t k = grind arith

-- a principal agrees with all on the bit if its placing inverts none of theirs
pub agrees_from_rows : (way : Direction) (xs ys : List Ace) (b : ℕ) (p : Principal) (r : Placing) (ps : List Principal)
    (rows : List Placing) → IsPlacing xs ys b p r → SameAlone way r → AllZip (IsPlacing xs ys b) ps rows
    → inverts_any way r rows ≡ false → AgreesAt way xs ys ps b p
agrees_from_rows way xs ys b p r [] [] h u z e = tt
agrees_from_rows way xs ys b p r (q ∷ ps) (s ∷ rows) h u z e =
    let parts = or_parts (inverts way r s) (inverts_any way r rows) e in
    (not_inverted way xs ys b p q r s h z.0 u parts.0, agrees_from_rows way xs ys b p r ps rows h u z.1 parts.1)
agrees_from_rows way xs ys b p r _ _ h u z e = absurd z

-- a principal does not agree with all on the bit if its placing inverts one of theirs
pub not_agrees_from_rows : (way : Direction) (xs ys : List Ace) (b : ℕ) (p : Principal) (r : Placing)
    (ps : List Principal)
    (rows : List Placing) → IsPlacing xs ys b p r → AllZip (IsPlacing xs ys b) ps rows
    → inverts_any way r rows ≡ true → AgreesAt way xs ys ps b p → ⊥
not_agrees_from_rows way xs ys b p r [] [] h z e a = cc
not_agrees_from_rows way xs ys b p r (q ∷ ps) (s ∷ rows) h z e a =
    go (or_cases (inverts way r s) (inverts_any way r rows) e)
    (λ k. not_agrees_from_rows way xs ys b p r ps rows h z.1 k a.1)
  where
    go : (inverts way r s ≡ true) ⊎ (inverts_any way r rows ≡ true) → (inverts_any way r rows ≡ true → ⊥) → ⊥
    go (inl k) later = let d = inverted_differ way xs ys b p q r s h z.0 k in d.1 (a.0 d.0)
    go (inr k) later = later k
not_agrees_from_rows way xs ys b p r _ _ h z e a = absurd z

-- if the lists agree on a principal with each later one, no pair of the principal is found
pub partners_agree : (way : Direction) (xs ys : List Ace) (p : Principal) (ps : List Principal) → Agrees way xs ys ps p
    → FindsFirst way xs ys (partners p ps) None
partners_agree way xs ys p [] h = refl
partners_agree way xs ys p (q ∷ ps) h =
    let later = partners_agree way xs ys p ps h.1 in
    cond_both (may_overlap p q) _ _ (λ sets. FindsFirst way xs ys sets None) (λ e. inl (h.0 e, later)) (λ e. later)

-- a principal that agrees with all agrees with the rest of them
pub agrees_rest : (way : Direction) (xs ys : List Ace) (ps rest : List Principal) (p : Principal)
    → Agrees way xs ys (ps ++ rest) p
    → Agrees way xs ys rest p
agrees_rest way xs ys [] rest p h = h
agrees_rest way xs ys (q ∷ ps) rest p h = agrees_rest way xs ys ps rest p h.1

-- if each of the first principals agrees with all, the first pair is that of the rest
pub pairs_after : (way : Direction) (xs ys : List Ace) (whole before rest done : List Principal)
    (r : Option (List Principal))
    → whole ≡ done ++ (before ++ rest) → AllByRecursion (Agrees way xs ys whole) before
    → FindsFirst way xs ys (principal_pairs rest) r
    → FindsFirst way xs ys (principal_pairs (before ++ rest)) r
pairs_after way xs ys whole [] rest done r is h f = f
pairs_after way xs ys whole (p ∷ before) rest done r is h f =
    let longer : whole ≡ (done ++ p ∷ []) ++ (before ++ rest) =
    is ∙ sym (append_assoc done (p ∷ []) (before ++ rest)) in
    let tail : Agrees way xs ys (before ++ rest) p =
    agrees_rest way xs ys (done ++ p ∷ []) (before ++ rest) p (subst (λ v. Agrees way xs ys v p) longer h.0) in
    found_right way xs ys (partners p (before ++ rest)) (principal_pairs (before ++ rest)) r
    (partners_agree way xs ys p (before ++ rest) tail)
    (pairs_after way xs ys whole before rest (done ++ p ∷ []) r longer h.1 f)

-- if each principal agrees with all, no pair differs
pub no_pairs : (way : Direction) (xs ys : List Ace) (whole rest done : List Principal) → whole ≡ done ++ rest
    → AllByRecursion (Agrees way xs ys whole) rest → FindsFirst way xs ys (principal_pairs rest) None
no_pairs way xs ys whole [] done is h = refl
no_pairs way xs ys whole (p ∷ rest) done is h =
    let longer : whole ≡ (done ++ p ∷ []) ++ rest = is ∙ sym (append_assoc done (p ∷ []) rest) in
    let tail : Agrees way xs ys rest p =
    agrees_rest way xs ys (done ++ p ∷ []) rest p (subst (λ v. Agrees way xs ys v p) longer h.0) in
    found_right way xs ys (partners p rest) (principal_pairs rest) None (partners_agree way xs ys p rest tail)
    (no_pairs way xs ys whole rest (done ++ p ∷ []) longer h.1)
