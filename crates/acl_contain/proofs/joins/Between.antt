-- What the ends show about the ACEs after the place into which an ACE may be joined.
use Rattle.acl_contain.proofs.joins.Columns.{free_by_place, not_twice, short_irreducible}
use Rattle.acl_contain.proofs.joins.Moved.{IsFreeOf}
use Rattle.acl_contain.specs.Tidied.{AreOpposed, ace_at_place}
use Rattle.acl_contain.specs.internal.Joining.{AreEnds, AreJoined, IsBarred, IsEnd, IsFreeBelow, IsKeptAce, IsPlain, has_key, is_standing, number_at_place, opposing_end, right_slot}
use Rattle.acl_normal.proofs.Common.{Ace, AllByRecursion, Bool, HasName, HasNames, IsIrreducible, IsSubset, List, Principal, [], ace_key, all_rights, and_from, and_parts, ap, append_assoc, arith, cases_lt, column, conflicts, drop, drop_more, everyone, false, false≢true, group, group_named, has_bit, inl, inr, is_user, kind_eq, length, may_overlap, other_kind, owner, principal_of, refl, subst, sym, take, true, user, ℕ, ⊎_elim, ◌++◌, ◌+◌, ◌-◌, ◌<◌, ◌∙◌, ◌∷◌, ◌≡◌, ◌≤◌, ◌⊎◌}
use Rattle.acl_normal.proofs.Each.{all_append, all_at, all_right, all_weaker, split_there}
use Rattle.acl_normal.proofs.unique.Accepted.{ace_name, each_mask}
use Rattle.acl_normal.proofs.unique.Bits.{below}
use Rattle.acl_normal.proofs.unique.Columns.{column-append, column_with}
use Rattle.acl_normal.proofs.unique.ListColumns.{names_in_column}
use Rattle.acl_normal.proofs.unique.Names.{bytes_eq_same, key_eq_itself, kind_eq_itself, kind_eq_same}
use Rattle.acl_normal.specs.Places.{same_class}
use Rattle.acl_normal.specs.internal.emit.Ready.{key_eq}
use Rattle.acl_perm.specs.declared.kind.Kind.{Kind}
use Rattle.acl_perm.specs.declared.kind.Kind.TheVariants.{Allow, Deny}
use Rattle.std.proofs.lemmas.List.{get_or-drop, length-drop, take-append-drop}

-- ---- kinds and classes

-- a kind that is not the same is the other one
other_if : (j k : Kind) → kind_eq j k ≡ false → j ≡ other_kind k
other_if j k h = grind arith

-- the other kind is not the same
other_not : (j k : Kind) → j ≡ other_kind k → j ≡ k → ⊥
other_not Allow Allow h e = cc
other_not Allow Deny h e = cc
other_not Deny Allow h e = cc
other_not Deny Deny h e = cc

-- keys do not conflict if their kinds differ only where nobody can match both
no_conflict : (y a : Ace)
    → (kind_eq y.kind a.kind ≡ false → may_overlap (principal_of y) (principal_of a) ≡ true → ⊥)
    → conflicts (ace_key y) (ace_key a) ≡ false
no_conflict y a h = go (kind_eq y.kind a.kind) refl (may_overlap (principal_of y) (principal_of a)) refl
  where
    go : (s : Bool) → kind_eq y.kind a.kind ≡ s → (t : Bool) → may_overlap (principal_of y) (principal_of a) ≡ t
        → conflicts (ace_key y) (ace_key a) ≡ false
    go s i false j = rw j refl
    go true i true j = rw (j, i) refl
    go false i true j = absurd (h i j)

-- two users that overlap are one
one_user : (p q : Principal) → is_user p ≡ true → is_user q ≡ true → may_overlap p q ≡ true → p ≡ q
one_user (user a) (user b) h i o = ap user (bytes_eq_same a b o)
one_user (user a) owner h i o = absurd (false≢true i)
one_user (user a) group h i o = absurd (false≢true i)
one_user (user a) (group_named b) h i o = absurd (false≢true i)
one_user (user a) everyone h i o = absurd (false≢true i)
one_user owner q h i o = absurd (false≢true h)
one_user group q h i o = absurd (false≢true h)
one_user (group_named a) q h i o = absurd (false≢true h)
one_user everyone q h i o = absurd (false≢true h)

-- a principal that is no user overlaps each other one
overlaps_others : (p q : Principal) → is_user q ≡ false → may_overlap p q ≡ true
overlaps_others p q h = grind (arith, h)

-- a principal that is no user overlaps each other one
others_overlap : (p q : Principal) → is_user p ≡ false → may_overlap p q ≡ true
others_overlap p q h = grind (arith, h)

-- a class is the same as itself
class_itself : (users : Bool) → same_class users users ≡ true
class_itself users = grind arith

-- ---- names and rights

-- the who of each kept ACE is a name
pub kept_names : (list kept : List Ace) → AllByRecursion (IsKeptAce list) kept → HasNames kept
kept_names list kept each = all_weaker (IsKeptAce list) (λ a. HasName (principal_of a)) kept
    (λ a k. ace_name a k.accepted.who) each

-- the bits of a kept ACE are rights
pub kept_rights : (list : List Ace) (a : Ace) → IsKeptAce list a → IsSubset a.mask all_rights
kept_rights list a k = (each_mask (a ∷ []) (k.accepted, tt)).0

-- what holds of each ACE holds of each after a place
all_after : (P : Ace → Type 0) (place : ℕ) (list : List Ace) → AllByRecursion P list
    → AllByRecursion P (drop place list)
all_after P place list each = all_right P (take place list) (drop place list)
    (subst (AllByRecursion P) (sym (take-append-drop place list)) each)

-- the kept ACEs and the rest of the list have irreducible columns
pub still_irreducible : (list kept : List Ace) (place : ℕ) → IsPlain list → AreJoined list place kept → (b : ℕ)
    → IsIrreducible (column kept b ++ column (drop place list) b)
still_irreducible list kept place plain joined b =
    short_irreducible (column list b) _ (plain.irreducible b)
    (all_append (λ e. HasName e.0) (column kept b) (column (drop place list) b)
    (names_in_column b kept (kept_names list kept joined.each))
    (names_in_column b (drop place list)
    (kept_names list (drop place list) (all_after (IsKeptAce list) place list plain.each))))
    (joined.same b) (joined.few b)

-- no user is in a kept ACE and in the next one of the list with one right
not_again : (list kept : List Ace) (place q b : ℕ) → IsPlain list → AreJoined list place kept → place < length list
    → q < length kept → has_bit (ace_at_place kept q).mask b ≡ true → has_bit (ace_at_place list place).mask b ≡ true
    → principal_of (ace_at_place kept q) ≡ principal_of (ace_at_place list place) → ⊥
not_again list kept place q b plain joined lt inside has also same =
    not_twice (column (take q kept) b) (column (drop (q + 1) kept) b) (column (drop (place + 1) list) b)
    (principal_of (ace_at_place kept q)) (ace_at_place kept q).kind (ace_at_place list place).kind
    (subst IsIrreducible shown (still_irreducible list kept place plain joined b))
  where
    y : Ace
    y = ace_at_place kept q

    a : Ace
    a = ace_at_place list place

    front : column kept b ≡ column (take q kept) b ++ ace_key y ∷ column (drop (q + 1) kept) b
    front = ap (λ v. column v b) (split_there kept q _ inside)
        ∙ column-append b (take q kept) (y ∷ drop (q + 1) kept)
        ∙ ap (λ c. column (take q kept) b ++ c)
        (column_with b y (drop (q + 1) kept) (all_at (IsKeptAce list) kept q _ inside joined.each).flags has)

    back : column (drop place list) b ≡ (principal_of y, a.kind) ∷ column (drop (place + 1) list) b
    back = ap (λ v. column v b) (drop_more list place _ lt)
        ∙ column_with b a (drop (place + 1) list) (all_at (IsKeptAce list) list place _ lt plain.each).flags also
        ∙ ap (λ p. (p, a.kind) ∷ column (drop (place + 1) list) b) (sym same)

    shown : column kept b ++ column (drop place list) b ≡ column (take q kept) b
        ++ ace_key y ∷ (column (drop (q + 1) kept) b ++ (principal_of y, a.kind) ∷ column (drop (place + 1) list) b)
    shown = ap (λ c. c ++ column (drop place list) b) front
        ∙ append_assoc (column (take q kept) b) (ace_key y ∷ column (drop (q + 1) kept) b) (column (drop place list) b)
        ∙ ap (λ c. column (take q kept) b ++ ace_key y ∷ (column (drop (q + 1) kept) b ++ c)) back

-- ---- what is not barred

-- an ACE stands with its own rights, kind and class
pub stands : (b : ℕ) (kind : Kind) (users : Bool) (y : Ace) → has_bit y.mask b ≡ true → y.kind ≡ kind
    → is_user (principal_of y) ≡ users → is_standing b kind users y ≡ true
stands b kind users y has is class = and_from _ _ has (and_from _ _
    (subst (λ v. kind_eq y.kind v ≡ true) is (kind_eq_itself y.kind))
    (subst (λ v. same_class (is_user (principal_of y)) v ≡ true) class (class_itself (is_user (principal_of y)))))

-- where nothing after an end is opposed to the next ACE, its key is free of the kept ACEs after the end
pub free_after : (list kept : List Ace) (numbers keys rights : List ℕ) (place end : ℕ) → IsPlain list
    → AreJoined list place kept → AreEnds list numbers kept keys rights → place < length list
    → IsFreeBelow 21 rights (ace_at_place list place).mask (ace_at_place list place).kind
    (is_user (principal_of (ace_at_place list place))) end → (b : ℕ) → has_bit (ace_at_place list place).mask b ≡ true
    → IsFreeOf (ace_key (ace_at_place list place)) (column (drop end kept) b)
free_after list kept numbers keys rights place end plain joined ends lt free b also =
    free_by_place b (ace_key a) (drop end kept) (λ p l has.
    subst (λ v. conflicts (ace_key v) (ace_key a) ≡ false) (sym (get_or-drop end kept p _))
    (at (end + p) (omega (arith)) (omega (arith, l, length-drop end kept))
    (subst (λ (v : Ace). has_bit v.mask b ≡ true) (get_or-drop end kept p _) has)))
  where
    a : Ace
    a = ace_at_place list place

    small : b < 21
    small = below b (kept_rights list a (all_at (IsKeptAce list) list place _ lt plain.each) b also)

    ended : (q : ℕ) (users : Bool) → q < length kept → has_bit (ace_at_place kept q).mask b ≡ true
        → (ace_at_place kept q).kind ≡ other_kind a.kind → is_user (principal_of (ace_at_place kept q)) ≡ users
        → number_at_place rights (right_slot b (other_kind a.kind) users) ≤ q → ⊥
    ended q users inside has is class past = false≢true
        (sym ((ends.of_rights b small (other_kind a.kind) users).after q past inside)
        ∙ stands b (other_kind a.kind) users (ace_at_place kept q) has is class)

    by : (q : ℕ) (u v : Bool) → is_user (principal_of a) ≡ u → is_user (principal_of (ace_at_place kept q)) ≡ v
        → end ≤ q
        → q < length kept → has_bit (ace_at_place kept q).mask b ≡ true → (ace_at_place kept q).kind ≡ other_kind a.kind
        → may_overlap (principal_of (ace_at_place kept q)) (principal_of a) ≡ true
        → opposing_end rights b a.kind (is_user (principal_of a)) ≤ end → ⊥
    by q true true i j past inside has is overlap under = not_again list kept place q b plain joined lt inside has also
        (one_user (principal_of (ace_at_place kept q)) (principal_of a) j i overlap)
    by q true false i j past inside has is overlap under = ended q false inside has is j
        (omega (arith, past, subst (λ t. opposing_end rights b a.kind t ≤ end) i under))
    by q false v i j past inside has is overlap under = ended q v inside has is j (bound v)
      where
        limit : opposing_end rights b a.kind false ≤ end
        limit = subst (λ t. opposing_end rights b a.kind t ≤ end) i under

        bound : (v : Bool) → number_at_place rights (right_slot b (other_kind a.kind) v) ≤ q
        bound true = omega (arith, past, limit)
        bound false = omega (arith, past, limit)

    at : (q : ℕ) → end ≤ q → q < length kept → has_bit (ace_at_place kept q).mask b ≡ true
        → conflicts (ace_key (ace_at_place kept q)) (ace_key a) ≡ false
    at q past inside has = no_conflict (ace_at_place kept q) a (λ differs overlap.
        by q _ _ refl refl past inside has (other_if (ace_at_place kept q).kind a.kind differs) overlap (free b small
        also))

-- ---- what is barred

-- if the next ACE has no earlier one of its key, or an ACE after the last one bars it, then behind each kept ACE of its
-- key there is one that is opposed to it
pub barred_behind : (list kept : List Ace) (numbers keys rights : List ℕ) (place end : ℕ) (a : Ace)
    → AreEnds list numbers kept keys rights → IsEnd (has_key a) kept end
    → (end ≡ 0) ⊎ IsBarred rights a.mask a.kind (is_user (principal_of a)) end
    → (i : ℕ) → i < length kept → ace_key (ace_at_place kept i) ≡ ace_key a
    → (c : ℕ) × (i < c) × (c < length kept) × AreOpposed (ace_at_place kept c) a
barred_behind list kept numbers keys rights place end a ends own barred i inside same = go barred
  where
    passes : has_key a (ace_at_place kept i) ≡ true
    passes = subst (λ k. key_eq (ace_key a) k ≡ true) (sym same) (key_eq_itself (ace_key a))

    before : i < end
    before = ⊎_elim (λ (l : i < end). l) (λ past. absurd (false≢true (sym (own.after i past inside) ∙ passes)))
        (cases_lt i end)

    opposed : (b : ℕ) (users : Bool) (e : ℕ) → b < 21 → has_bit a.mask b ≡ true
        → number_at_place rights (right_slot b (other_kind a.kind) users) ≡ e + 1 → end ≤ e
        → (is_user (principal_of a) ≡ true → users ≡ false)
        → (c : ℕ) × (i < c) × (c < length kept) × AreOpposed (ace_at_place kept c) a
    opposed b users e small has is past class =
        let standing = ends.of_rights b small (other_kind a.kind) users in
        let y : Ace = ace_at_place kept e in
        let parts = and_parts (has_bit y.mask b) _ (standing.last e is) in
        let more = and_parts (kind_eq y.kind (other_kind a.kind)) _ parts.1 in (
          e,
          omega (arith, before, past),
          omega (arith, is, standing.within),
          record {
            kinds = λ same. other_not y.kind a.kind (kind_eq_same y.kind (other_kind a.kind) more.0) same;
            overlap = overlap y (is_user (principal_of a)) refl users more.1 class;
            bit = b;
            first_has = parts.0;
            second_has = has;
          },
        )
      where
        overlap : (y : Ace) (u : Bool) → is_user (principal_of a) ≡ u → (users : Bool)
            → same_class (is_user (principal_of y)) users ≡ true → (is_user (principal_of a) ≡ true → users ≡ false)
            → may_overlap (principal_of y) (principal_of a) ≡ true
        overlap y false i users same class = overlaps_others (principal_of y) (principal_of a) i
        overlap y true i users same class = others_overlap (principal_of y) (principal_of a)
            (grind (arith, same, class i))

    go : (end ≡ 0) ⊎ IsBarred rights a.mask a.kind (is_user (principal_of a)) end
        → (c : ℕ) × (i < c) × (c < length kept) × AreOpposed (ace_at_place kept c) a
    go (inl none) = absurd (omega (arith, before, none))
    go (inr (b, small, has, over)) = by (is_user (principal_of a)) refl
      where
        others : ℕ
        others = number_at_place rights (right_slot b (other_kind a.kind) false)

        users : ℕ
        users = number_at_place rights (right_slot b (other_kind a.kind) true)

        by : (u : Bool) → is_user (principal_of a) ≡ u
            → (c : ℕ) × (i < c) × (c < length kept) × AreOpposed (ace_at_place kept c) a
        by true class =
            let beyond : end < others = subst (λ t. end < opposing_end rights b a.kind t) class over in
            opposed b false (others - 1) small has (omega (arith, beyond)) (omega (arith, beyond)) (λ h. refl)
        by false class =
            let beyond = subst (λ t. end < opposing_end rights b a.kind t) class over in
            ⊎_elim
            (λ (one : end < others). opposed b false (others - 1) small has (omega (arith, one)) (omega (arith, one))
            (λ h. refl))
            (λ (none : others ≤ end). opposed b true (users - 1) small has (omega (arith, none, beyond))
            (omega (arith, none, beyond)) (λ h. absurd (false≢true (sym class ∙ h))))
            (cases_lt end others)
