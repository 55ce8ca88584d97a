-- What a list grants to each principal alone, as the code finds it: in one walk, for all principals and all rights.
use Rattle.acl_normal.proofs.Common.{[], Ace, ace, AceRef, aces_in, all_mentioned, ap, AreWhoms, arith, at_drop_more, Bool, cases_eq, cond, drop, drop_all, eq-eqb, Everyone, everyone, false, get_or-replicate, get_or_default, get_or-set_other, get_or-set_same, has_bit, inl, inr, is_allow, is_granted_to, IsGrantedTo, IsMask, length, List, ne_eqb, no_bit, Nobody, not, One, Principal, refl, replicate, slice_index_or, slice_set, subst, sym, true, TwoLists, Whom, ℕ, ◌&&◌, ◌+◌, ◌<◌, ◌||◌, ◌∙◌, ◌∷◌, ◌≡◌, ◌≤◌, ◌⊎◌}
use Rattle.acl_normal.proofs.comparison.DifferingRightsLemmas.{is_whom_at}
use Rattle.acl_normal.proofs.comparison.SetEvaluation.{differing_are, granted_to-cons, none_differ}
use Rattle.acl_normal.specs.internal.comparison.Directions.{differ_in}
use Rattle.acl_normal.specs.internal.comparison.FirstPlaces.{hits, IsWhom, OnAll}
use Rattle.acl_normal.specs.internal.comparison.GrantedAlone.{AreGrantedAlone, DecidesMore, is_granted_alone}
use Rattle.acl_normal.specs.internal.comparison.SetSearch.{AreDiffering}
use Rattle.acl_normal.specs.internal.comparison.TwoLists.{AlikeToOne, principal_at}
use Rattle.acl_normal.specs.declared.comparison.granted_alone.Decision.{Decision}
use Rattle.acl_normal.specs.declared.comparison.granted_alone.GrantedAlone.{GrantedAlone}

-- what is granted already, and what the rest of the list grants of what is not decided
abbrev pub decides_alone : Decision → Decision → Bool → ℕ → Bool
decides_alone named all rest bit = is_granted_alone named all bit
    || (not (has_bit named.decided.bits bit || has_bit all.decided.bits bit) && rest)

-- after the first i ACEs, what is decided, with the rest of the list, decides as the whole list
pub record AreAloneSoFar (whole : List Principal) (refs : List AceRef) (i : ℕ) (named : List Decision) (all : Decision) :
    Type 0 where
  pub each : (k bit : ℕ) (own : Decision) → k < length whole → own ≡ slice_index_or named k own
      → decides_alone own all (is_granted_to (aces_in (drop i refs)) (slice_index_or whole k everyone ∷ []) bit) bit
      ≡ is_granted_to (aces_in refs) (slice_index_or whole k everyone ∷ []) bit
  pub within : (bit : ℕ) → (has_bit all.granted.bits bit && not (has_bit all.decided.bits bit)) ≡ false

-- an ACE in front decides for those that it concerns
cons_is : (whole : List Principal) (a : Ace) (w : Whom) (rest : List Ace) (k bit : ℕ) → IsWhom whole a w
    → k < length whole → is_granted_to (a ∷ rest) (slice_index_or whole k everyone ∷ []) bit
    ≡ cond (has_bit a.mask bit && hits w k) (is_allow a.kind)
    (is_granted_to rest (slice_index_or whole k everyone ∷ []) bit)
cons_is whole a w rest k bit h l =
    granted_to-cons a rest (slice_index_or whole k everyone ∷ []) bit ∙ grind (arith, h.hit k l)

-- so it does at the place of the ACE in the list
at_place : (whole : List Principal) (refs : List AceRef) (ws : List Whom) {x : AceRef} {w : Whom} {i : ℕ} (k bit : ℕ)
    {hit : Bool} → i < length refs → x ≡ slice_index_or refs i x → slice_index_or ws i Nobody ≡ w
    → AreWhoms whole (aces_in refs) ws → k < length whole → hits w k ≡ hit
    → is_granted_to (aces_in (drop i refs)) (slice_index_or whole k everyone ∷ []) bit
    ≡ cond (has_bit x.mask.bits bit && hit) (is_allow x.kind)
    (is_granted_to (aces_in (drop (i + 1) refs)) (slice_index_or whole k everyone ∷ []) bit)
at_place whole refs ws {x} {w} {i} k bit lt at wi all l h =
    at_drop_more (λ r. is_granted_to (aces_in r) (slice_index_or whole k everyone ∷ []) bit) refs i x lt
    ∙ ap (λ v. is_granted_to (ace v ∷ aces_in (drop (i + 1) refs)) (slice_index_or whole k everyone ∷ []) bit) (sym at)
    ∙ cons_is whole (ace x) w (aces_in (drop (i + 1) refs)) k bit (is_whom_at whole refs ws lt at (sym wi) all) l
    ∙ ap (λ t. cond (has_bit x.mask.bits bit && t) (is_allow x.kind)
    (is_granted_to (aces_in (drop (i + 1) refs)) (slice_index_or whole k everyone ∷ []) bit)) h

-- an ACE that does not concern a principal decides nothing for it
passed : (own all : Decision) (t allows rest : Bool) {whole : Bool} (bit : ℕ) → whole ≡ cond (t && false) allows rest
    → decides_alone own all rest bit ≡ decides_alone own all whole bit
passed own all true allows rest bit h = ap (λ v. decides_alone own all v bit) (sym h)
passed own all false allows rest bit h = ap (λ v. decides_alone own all v bit) (sym h)

-- an ACE that names a principal decides for it
named_decides : (og od sg sd m allows rest : Bool) → (sg && not sd) ≡ false
    → (((og || (allows && ((m && not sd) && not od))) || (sg && not (od || (m && not sd))))
    || (not ((od || (m && not sd)) || sd) && rest))
    ≡ ((og || (sg && not od)) || (not (od || sd) && cond (m && true) allows rest))
named_decides og od sg sd m allows rest h = grind (arith, h)

-- an ACE that names everyone decides for each principal
everyone_decides : (og od sg sd m allows rest : Bool)
    → ((og || ((sg || (allows && (m && not sd))) && not od)) || (not (od || (sd || m)) && rest))
    ≡ ((og || (sg && not od)) || (not (od || sd) && cond (m && true) allows rest))
everyone_decides og od sg sd m allows rest = grind arith

-- and grants only what it decides
everyone_within : (sg sd m allows : Bool) → (sg && not sd) ≡ false
    → ((sg || (allows && (m && not sd))) && not (sd || m)) ≡ false
everyone_within sg sd m allows h = grind (arith, h)

-- before the first ACE nothing is decided
pub alone_start : (whole : List Principal) (refs : List AceRef) {named : List Decision} (none : Decision) {all : Decision}
    {n : ℕ} → named ≡ replicate n none → length whole ≡ n → none.granted.bits ≡ 0 → none.decided.bits ≡ 0
    → all.granted.bits ≡ 0 → all.decided.bits ≡ 0 → AreAloneSoFar whole refs 0 named all
alone_start whole refs {named} none {all} {n} is long none_granted none_decided granted decided = record {
  each = λ k bit own lk at.
      let empty : own ≡ none =
      at ∙ ap (λ v. slice_index_or v k own) is ∙ get_or-replicate n k none own (omega (arith, lk, long)) in
      subst (λ v. decides_alone v all (is_granted_to (aces_in refs) (slice_index_or whole k everyone ∷ []) bit) bit
      ≡ is_granted_to (aces_in refs) (slice_index_or whole k everyone ∷ []) bit) (sym empty)
      (rw (none_granted, none_decided, granted, decided, no_bit bit) refl);
  within = λ bit. rw (granted, no_bit bit) refl;
}

-- after an ACE that names nobody
pub alone_nobody : (whole : List Principal) {refs : List AceRef} (ws : List Whom) {x : AceRef} {i : ℕ}
    {named : List Decision} {all : Decision} → i < length refs → x ≡ slice_index_or refs i x
    → slice_index_or ws i Nobody ≡ Nobody → AreWhoms whole (aces_in refs) ws → AreAloneSoFar whole refs i named all
    → AreAloneSoFar whole refs (i + 1) named all
alone_nobody whole {refs} ws {x} {i} {named} {all} lt at wi whoms inv = record {
  each = λ k bit own lk own_at.
      passed own all (has_bit x.mask.bits bit) (is_allow x.kind) _ bit
      (at_place whole refs ws k bit lt at wi whoms lk refl) ∙ inv.each k bit own lk own_at;
  within = inv.within;
}

-- after an ACE that names a principal
pub alone_named : (whole : List Principal) {refs : List AceRef} (ws : List Whom) {x : AceRef} {i number : ℕ}
    {named : List Decision} {all own new : Decision} → i < length refs → x ≡ slice_index_or refs i x
    → slice_index_or ws i Nobody ≡ One number → AreWhoms whole (aces_in refs) ws → number < length named
    → own ≡ slice_index_or named number own → DecidesMore own x.kind x.mask.bits all.decided.bits new
    → AreAloneSoFar whole refs i named all → AreAloneSoFar whole refs (i + 1) (slice_set named number new) all
alone_named whole {refs} ws {x} {i} {number} {named} {all} {own} {new} lt at wi whoms inside own_at d inv = record {
  each = λ k bit other lk other_at. go k bit other lk other_at (cases_eq k number);
  within = inv.within;
}
  where
    rest : ℕ → ℕ → Bool
    rest k bit = is_granted_to (aces_in (drop (i + 1) refs)) (slice_index_or whole k everyone ∷ []) bit

    decided : (bit : ℕ) (r : Bool) → decides_alone new all r bit
        ≡ decides_alone own all (cond (has_bit x.mask.bits bit && true) (is_allow x.kind) r) bit
    decided bit r = rw (d.granted bit, d.decided bit)
        (named_decides (has_bit own.granted.bits bit) (has_bit own.decided.bits bit) (has_bit all.granted.bits bit)
        (has_bit all.decided.bits bit) (has_bit x.mask.bits bit) (is_allow x.kind) r (inv.within bit))

    go : (k bit : ℕ) (other : Decision) → k < length whole → other ≡ slice_index_or (slice_set named number new) k other
        → (k ≡ number) ⊎ (k ≡ number → ⊥)
        → decides_alone other all (is_granted_to (aces_in (drop (i + 1) refs)) (slice_index_or whole k everyone ∷ []) bit)
        bit ≡ is_granted_to (aces_in refs) (slice_index_or whole k everyone ∷ []) bit
    go k bit other lk other_at (inl e) =
        let is_new : other ≡ new =
        other_at ∙ ap (λ v. slice_index_or (slice_set named number new) v other) e
        ∙ get_or-set_same named number new other inside in
        ap (λ v. decides_alone v all (rest k bit) bit) is_new ∙ decided bit (rest k bit)
        ∙ ap (λ v. decides_alone own all v bit)
        (sym (at_place whole refs ws k bit lt at wi whoms lk (eq-eqb k number e)))
        ∙ inv.each k bit own lk (own_at ∙ ap (λ v. slice_index_or named v own) (sym e))
    go k bit other lk other_at (inr n) =
        passed other all (has_bit x.mask.bits bit) (is_allow x.kind) _ bit
        (at_place whole refs ws k bit lt at wi whoms lk (ne_eqb k number n))
        ∙ inv.each k bit other lk (other_at ∙ get_or-set_other named number k new other n)

-- after an ACE that names everyone
pub alone_everyone : (whole : List Principal) {refs : List AceRef} (ws : List Whom) {x : AceRef} {i elsewhere : ℕ}
    {named : List Decision} {all new : Decision} → i < length refs → x ≡ slice_index_or refs i x
    → slice_index_or ws i Nobody ≡ Everyone → AreWhoms whole (aces_in refs) ws → elsewhere ≡ 0
    → DecidesMore all x.kind x.mask.bits elsewhere new
    → AreAloneSoFar whole refs i named all → AreAloneSoFar whole refs (i + 1) named new
alone_everyone whole {refs} ws {x} {i} {elsewhere} {named} {all} {new} lt at wi whoms none d inv = record {
  each = λ k bit own lk own_at.
      rw (granted bit, decided bit)
      (everyone_decides (has_bit own.granted.bits bit) (has_bit own.decided.bits bit) (has_bit all.granted.bits bit)
      (has_bit all.decided.bits bit) (has_bit x.mask.bits bit) (is_allow x.kind)
      (is_granted_to (aces_in (drop (i + 1) refs)) (slice_index_or whole k everyone ∷ []) bit))
      ∙ ap (λ v. decides_alone own all v bit) (sym (at_place whole refs ws k bit lt at wi whoms lk refl))
      ∙ inv.each k bit own lk own_at;
  within = λ bit. rw (granted bit, decided bit)
      (everyone_within (has_bit all.granted.bits bit) (has_bit all.decided.bits bit) (has_bit x.mask.bits bit)
      (is_allow x.kind) (inv.within bit));
}
  where
    all_of : (m : Bool) (bit : ℕ) → (m && not (has_bit elsewhere bit)) ≡ m
    all_of true bit = rw (none, no_bit bit) refl
    all_of false bit = refl

    decided : (bit : ℕ) → has_bit new.decided.bits bit ≡ (has_bit all.decided.bits bit || has_bit x.mask.bits bit)
    decided bit = d.decided bit ∙ ap (λ t. has_bit all.decided.bits bit || t) (all_of (has_bit x.mask.bits bit) bit)

    granted : (bit : ℕ) → has_bit new.granted.bits bit ≡ (has_bit all.granted.bits bit
        || (is_allow x.kind && (has_bit x.mask.bits bit && not (has_bit all.decided.bits bit))))
    granted bit = d.granted bit
        ∙ ap (λ t. has_bit all.granted.bits bit || (is_allow x.kind && (t && not (has_bit all.decided.bits bit))))
        (all_of (has_bit x.mask.bits bit) bit)

-- after the last ACE, what is granted is what the list grants to each of the principals alone
pub alone_done : (whole : List Principal) {refs : List AceRef} {i : ℕ} {g : GrantedAlone} → length refs ≤ i
    → AreAloneSoFar whole refs i g.named.items g.everyone → AreGrantedAlone whole (aces_in refs) g
alone_done whole {refs} {i} {g} past inv = record {
  each = λ k bit own lk own_at.
      nothing_left own g.everyone bit
      ∙ ap (λ r. decides_alone own g.everyone (is_granted_to (aces_in r) (slice_index_or whole k everyone ∷ []) bit) bit)
      (sym (drop_all i refs past))
      ∙ inv.each k bit own lk own_at;
}
  where
    or_none : (x y : Bool) → x ≡ (x || (y && false))
    or_none x y = grind arith

    nothing_left : (own all : Decision) (bit : ℕ)
        → is_granted_alone own all bit ≡ decides_alone own all false bit
    nothing_left own all bit = or_none (is_granted_alone own all bit)
        (not (has_bit own.decided.bits bit || has_bit all.decided.bits bit))

-- the mask of a number has what the list grants to its principal alone
to_one : (whole : List Principal) {list : List Ace} {g : GrantedAlone} {k mask : ℕ} → AreGrantedAlone whole list g
    → k < length whole → k < length g.named.items
    → ((bit : ℕ) → has_bit mask bit
    ≡ is_granted_alone (slice_index_or g.named.items k g.everyone) g.everyone bit)
    → IsGrantedTo list (slice_index_or whole k everyone ∷ []) mask
to_one whole {list} {g} {k} granted lk inside is = record {
  bits = λ bit. is bit ∙ granted.each k bit (slice_index_or g.named.items k g.everyone) lk
      (get_or_default g.named.items k g.everyone (slice_index_or g.named.items k g.everyone) inside);
}

-- the rights on which what is granted by the two lists differs for a principal alone
pub singles_differing : (both : TwoLists) {xs ys : List Ace} (ws vs : List Whom) {whole : List Principal}
    {g h : GrantedAlone} {k count : ℕ} (m n : ℕ) {rights : ℕ} → xs ≡ both.first → ys ≡ both.second → whole ≡ all_mentioned both
    → count ≡ length (all_mentioned both) → k < count → length g.named.items ≡ count → length h.named.items ≡ count
    → ((ps : List Principal) → length ps ≡ count → AreWhoms ps xs ws → AreGrantedAlone ps xs g)
    → ((ps : List Principal) → length ps ≡ count → AreWhoms ps ys vs → AreGrantedAlone ps ys h)
    → AreWhoms whole xs ws → AreWhoms whole ys vs
    → ((bit : ℕ) → has_bit m bit ≡ is_granted_alone (slice_index_or g.named.items k g.everyone) g.everyone bit)
    → ((bit : ℕ) → has_bit n bit ≡ is_granted_alone (slice_index_or h.named.items k h.everyone) h.everyone bit)
    → ((bit : ℕ) → has_bit rights bit ≡ differ_in both.direction (has_bit m bit) (has_bit n bit))
    → AreDiffering both.direction both.first both.second (principal_at both k ∷ []) rights
singles_differing both {xs} {ys} ws vs {whole} {g} {h} {k} {count} m n first second is counted lt here there
    granted others named also own theirs differ =
    differing_are
    (moved first (to_one whole (granted whole long named) (omega (arith, lt, long)) (omega (arith, lt, here)) own))
    (moved second (to_one whole (others whole long also) (omega (arith, lt, long)) (omega (arith, lt, there)) theirs))
    differ
  where
    long : length whole ≡ count
    long = ap length is ∙ sym counted

    moved : {list other : List Ace} {mask : ℕ} → list ≡ other
        → IsGrantedTo list (slice_index_or whole k everyone ∷ []) mask
        → IsGrantedTo other (principal_at both k ∷ []) mask
    moved {list} {other} {mask} e found =
        subst (λ v. IsGrantedTo v (slice_index_or (all_mentioned both) k everyone ∷ []) mask) e
        (subst (λ v. IsGrantedTo list (slice_index_or v k everyone ∷ []) mask) is found)

-- if there is no right on which the lists differ for a principal alone, they are alike for it
pub single_same : (both : TwoLists) (k : ℕ) {rights : ℕ} → IsMask rights
    → AreDiffering both.direction both.first both.second (principal_at both k ∷ []) rights → rights ≡ 0
    → OnAll (AlikeToOne both) k
single_same both k {rights} within d none =
    (none_differ both.direction both.first both.second (principal_at both k ∷ []) rights within d).0 none

-- and otherwise they are not
pub single_unlike : (both : TwoLists) (k : ℕ) {rights : ℕ} → IsMask rights
    → AreDiffering both.direction both.first both.second (principal_at both k ∷ []) rights → (rights ≡ 0 → ⊥)
    → OnAll (AlikeToOne both) k → ⊥
single_unlike both k {rights} within d some alike =
    some ((none_differ both.direction both.first both.second (principal_at both k ∷ []) rights within d).1 alike)
