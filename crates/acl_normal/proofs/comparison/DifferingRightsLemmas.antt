-- The rights on which two lists may differ, by a walk over both.
use Rattle.acl_normal.proofs.Common.{Ace, ace, AceRef, aces_in, and_parts, ap, AreWhoms, arith, at_drop_more, Bool, column, cond, drop, eq-eqb, eqb-true, Everyone, everyone, false, false≢true, get_or-map, has_bit, IsUnion, IsWhom, length, length-map, List, no_ace, no_bit, Nobody, not, One, or_parts, Principal, principal_eq, principal_of, refl, slice_index_or, subst, sym, takes_part, true, Whom, ℕ, ◌&&◌, ◌||◌, ◌+◌, ◌<◌, ◌∙◌, ◌∷◌, ◌≡◌}
use Rattle.acl_normal.proofs.comparison.Directions.{same_answer}
use Rattle.acl_normal.proofs.comparison.FirstPlaceLemmas.{whom_at}
use Rattle.acl_normal.proofs.comparison.Numbers.{is_of_own}
use Rattle.acl_normal.proofs.unique.Columns.{column_first}
use Rattle.acl_normal.proofs.unique.Names.{kind_eq_same, principal_eq_same}
use Rattle.acl_normal.specs.internal.comparison.Directions.{differ_in}
use Rattle.acl_normal.specs.internal.comparison.FirstPlaces.{names_any, same_whom}
use Rattle.acl_normal.specs.internal.comparison.RightsApart.{HasOpenBits, have_same_key}
use Rattle.acl_normal.specs.declared.comparison.differing_rights.Statement.{Statement}
use Rattle.acl_normal.specs.declared.comparison.direction.Direction.TheVariants.{Either}

-- the code's value at a place says whom the ACE there names
pub is_whom_at : (whole : List Principal) (refs : List AceRef) (ws : List Whom) {x : AceRef} {w : Whom} {i : ℕ}
    → i < length refs → x ≡ slice_index_or refs i x → w ≡ slice_index_or ws i Nobody → AreWhoms whole (aces_in refs) ws
    → IsWhom whole (ace x) w
is_whom_at whole refs ws {x} {w} {i} lt at wi all =
    subst (λ v. IsWhom whole (ace x) v)
    (sym wi)
    (subst (λ v. IsWhom whole v (slice_index_or ws i Nobody))
    (get_or-map ace refs i x no_ace lt ∙ ap ace (sym at))
    (whom_at whole (aces_in refs) ws i (omega (arith, lt, length-map refs ace)) all))

-- the column of what is left at a place begins with the ACE there
column_at : (refs : List AceRef) (x : AceRef) (i bit : ℕ) → i < length refs → x ≡ slice_index_or refs i x
    → column (aces_in (drop i refs)) bit ≡ column (ace x ∷ aces_in (drop (i + 1) refs)) bit
column_at refs x i bit lt at =
    at_drop_more (λ r. column (aces_in r) bit) refs i x lt
    ∙ ap (λ v. column (ace v ∷ aces_in (drop (i + 1) refs)) bit) (sym at)

-- at a bit that isn't apart, an ACE has the bit open if and only if it has the bit and takes part
open_is : (whole : List Principal) (a : Ace) (w : Whom) (apart mask bit : ℕ) → IsWhom whole a w
    → HasOpenBits a w apart mask → has_bit apart bit ≡ false
    → has_bit mask bit ≡ (has_bit a.mask bit && takes_part a)
open_is whole a w apart mask bit i h e =
    h.bits bit ∙ ap (λ t. (has_bit a.mask bit && names_any w) && not t) e
    ∙ and_true (has_bit a.mask bit && names_any w) ∙ ap (λ t. has_bit a.mask bit && t) (sym i.part)
  where
    and_true : (t : Bool) → (t && true) ≡ t
    and_true t = grind arith

-- an ACE without the bit open leaves the column of what is left as it is
column_passed : (whole : List Principal) (refs : List AceRef) (ws : List Whom) (x : AceRef) (w : Whom)
    (i apart mask bit : ℕ) → i < length refs → x ≡ slice_index_or refs i x → w ≡ slice_index_or ws i Nobody
    → AreWhoms whole (aces_in refs) ws → HasOpenBits (ace x) w apart mask → has_bit apart bit ≡ false
    → has_bit mask bit ≡ false
    → column (aces_in (drop i refs)) bit ≡ column (aces_in (drop (i + 1) refs)) bit
column_passed whole refs ws x w i apart mask bit lt at wi all h e f =
    let test = sym (open_is whole (ace x) w apart mask bit (is_whom_at whole _ _ lt at wi all) h e) ∙ f in
    column_at refs x i bit lt at ∙ column_first bit (ace x) (aces_in (drop (i + 1) refs))
    ∙ ap (λ t. cond t ((principal_of (ace x), x.kind) ∷ column (aces_in (drop (i + 1) refs)) bit)
    (column (aces_in (drop (i + 1) refs)) bit)) test

-- two ACEs that name the same have one principal, if one of the ACEs takes part
same_principal : (whole : List Principal) (a b : Ace) (w : Whom) → IsWhom whole a w → IsWhom whole b w
    → takes_part a ≡ true → principal_of a ≡ principal_of b
same_principal whole a b w h i t = own a w h t ∙ sym (own b w i (i.part ∙ sym h.part ∙ t))
  where
    named : Whom → Principal
    named Nobody = everyone
    named (One k) = slice_index_or whole k everyone
    named Everyone = everyone

    own : (c : Ace) (v : Whom) → IsWhom whole c v → takes_part c ≡ true → principal_of c ≡ named v
    own c Nobody j u = absurd (false≢true (sym j.part ∙ u))
    own c Everyone j u = principal_eq_same (principal_of c) everyone
        (and_parts (takes_part c) (principal_eq (principal_of c) everyone) j.all).1
    own c (One k) j u =
        let other : principal_eq (principal_of c) everyone ≡ false =
        sym (ap (λ s. s && principal_eq (principal_of c) everyone) u) ∙ j.all in
        principal_eq_same (principal_of c) (slice_index_or whole k everyone)
        (sym (is_of_own c (slice_index_or whole k everyone) u other) ∙ j.hit k j.within ∙ eq-eqb k k refl)

-- at the places here and there of two lists, the columns of what is left decide whether those of the lists are the
-- same, except at the rights apart
pub record AreWalked (refs others : List AceRef) (here there apart : ℕ) : Type 0 where
  pub same : (bit : ℕ) → has_bit apart bit ≡ false
      → column (aces_in (drop here refs)) bit ≡ column (aces_in (drop there others)) bit
      → column (aces_in refs) bit ≡ column (aces_in others) bit

-- without open rights no right is apart that was not
pub none_more : (apart : ℕ) {own : ℕ} → own ≡ 0 → IsUnion apart own apart
none_more apart {own} none = λ bit. sym (ap (λ m. has_bit apart bit || has_bit m bit) none
    ∙ ap (λ t. has_bit apart bit || t) (no_bit bit) ∙ or_false (has_bit apart bit))
  where
    or_false : (t : Bool) → (t || false) ≡ t
    or_false t = grind arith

-- the walk continues after an ACE of the first list whose open rights are apart from now on
pub walk_here : (whole : List Principal) {refs others : List AceRef} (ws : List Whom) {x : AceRef} {w : Whom}
    {here there apart own new : ℕ} → here < length refs → x ≡ slice_index_or refs here x
    → w ≡ slice_index_or ws here Nobody
    → AreWhoms whole (aces_in refs) ws → HasOpenBits (ace x) w apart own → IsUnion apart own new
    → AreWalked refs others here there apart → AreWalked refs others (here + 1) there new
walk_here whole {refs} {others} ws {x} {w} {here} {there} {apart} {own} lt at wi all h u inv = record {
  same = λ bit e rest.
      let parts = or_parts (has_bit apart bit) (has_bit own bit) (sym (u bit) ∙ e) in
      inv.same bit parts.0 (column_passed whole refs ws x w here apart own bit lt at wi all h parts.0 parts.1 ∙ rest);
}

-- the walk continues after an ACE of the second list whose open rights are apart from now on
pub walk_there : (whole : List Principal) {refs others : List AceRef} (ws : List Whom) {x : AceRef} {w : Whom}
    {here there apart own new : ℕ} → there < length others → x ≡ slice_index_or others there x
    → w ≡ slice_index_or ws there Nobody → AreWhoms whole (aces_in others) ws → HasOpenBits (ace x) w apart own
    → IsUnion apart own new → AreWalked refs others here there apart → AreWalked refs others here (there + 1) new
walk_there whole {refs} {others} ws {x} {w} {here} {there} {apart} {own} lt at wi all h u inv = record {
  same = λ bit e rest.
      let parts = or_parts (has_bit apart bit) (has_bit own bit) (sym (u bit) ∙ e) in
      inv.same bit parts.0
      (rest ∙ sym (column_passed whole others ws x w there apart own bit lt at wi all h parts.0 parts.1));
}

-- the walk continues after two ACEs with the same kind and principal, if the open rights that only one of them has are
-- apart from now on
pub walk_both : (whole : List Principal) {refs others : List AceRef} (ws vs : List Whom) {x y : AceRef} {w v : Whom}
    {here there apart own theirs : ℕ} (differing : ℕ) {new : ℕ} → here < length refs → there < length others
    → x ≡ slice_index_or refs here x → y ≡ slice_index_or others there y → w ≡ slice_index_or ws here Nobody
    → v ≡ slice_index_or vs there Nobody → AreWhoms whole (aces_in refs) ws → AreWhoms whole (aces_in others) vs
    → HasOpenBits (ace x) w apart own → HasOpenBits (ace y) v apart theirs
    → ((bit : ℕ) → has_bit differing bit ≡ differ_in Either (has_bit own bit) (has_bit theirs bit))
    → IsUnion apart differing new → w ≡ v → x.kind ≡ y.kind
    → AreWalked refs others here there apart → AreWalked refs others (here + 1) (there + 1) new
walk_both whole {refs} {others} ws vs {x} {y} {w} {v} {here} {there} {apart} {own} {theirs} differing {new} lh lt xa ya wi vi
    hw hv ho ht d u we ke inv =
    record {
      same = λ bit e rest.
          let parts = or_parts (has_bit apart bit) (has_bit differing bit) (sym (u bit) ∙ e) in
          inv.same bit parts.0 (heads bit parts.0
          (same_answer (has_bit own bit) (has_bit theirs bit) (sym (d bit) ∙ parts.1)) rest);
    }
  where
    named : IsWhom whole (ace x) w
    named = is_whom_at whole _ _ lh xa wi hw

    also : IsWhom whole (ace y) v
    also = is_whom_at whole _ _ lt ya vi hv

    joined : (t u : Bool) (bit : ℕ) → t ≡ u → (t ≡ true → principal_of (ace x) ≡ principal_of (ace y))
        → column (aces_in (drop (here + 1) refs)) bit ≡ column (aces_in (drop (there + 1) others)) bit
        → cond t ((principal_of (ace x), x.kind) ∷ column (aces_in (drop (here + 1) refs)) bit)
        (column (aces_in (drop (here + 1) refs)) bit)
        ≡ cond u ((principal_of (ace y), y.kind) ∷ column (aces_in (drop (there + 1) others)) bit)
        (column (aces_in (drop (there + 1) others)) bit)
    joined true true bit e p rest = rw (p refl, ke, rest) refl
    joined false false bit e p rest = rest
    joined true false bit e p rest = cc
    joined false true bit e p rest = cc

    heads : (bit : ℕ) → has_bit apart bit ≡ false → has_bit own bit ≡ has_bit theirs bit
        → column (aces_in (drop (here + 1) refs)) bit ≡ column (aces_in (drop (there + 1) others)) bit
        → column (aces_in (drop here refs)) bit ≡ column (aces_in (drop there others)) bit
    heads bit e oe rest =
        column_at refs x here bit lh xa ∙ column_first bit (ace x) (aces_in (drop (here + 1) refs))
        ∙ joined (has_bit x.mask.bits bit && takes_part (ace x)) (has_bit y.mask.bits bit && takes_part (ace y)) bit
        (sym (open_is whole (ace x) w apart own bit named ho e) ∙ oe
        ∙ open_is whole (ace y) v apart theirs bit also ht e)
        (λ t. same_principal whole (ace x) (ace y) w named (subst (λ k. IsWhom whole (ace y) k) (sym we) also)
        (and_parts (has_bit x.mask.bits bit) (takes_part (ace x)) t).1)
        rest
        ∙ sym (column_at others y there bit lt ya ∙ column_first bit (ace y) (aces_in (drop (there + 1) others)))

-- if the test says that two ACEs name the same, they do
named_alike : (v w : Whom) → same_whom v w ≡ true → v ≡ w
named_alike v w h = grind (arith, eqb-true)

-- two statements with the same principal and kind
pub record AreAlike (s t : Statement) : Type 0 where
  pub whom : s.whom ≡ t.whom
  pub kind : s.kind ≡ t.kind

-- two statements that pass the test are alike
pub alike_is : (s t : Statement) → have_same_key s t ≡ true → AreAlike s t
alike_is s t h = record {
  whom = named_alike s.whom t.whom (grind arith);
  kind = kind_eq_same s.kind t.kind (grind arith);
}
