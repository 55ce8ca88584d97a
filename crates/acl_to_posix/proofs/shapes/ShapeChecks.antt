-- The access check grants a request if and only if one of the entries at which it looks has the request. So the ACL of
-- a shape is sound, and no sound ACL of the shape grants more.
use Rattle.std.proofs.Common.{◌≡◌, ℕ, Bool, true, false, cond, List, [], ◌∷◌, Option, None, Some, refl, sym, ap, ◌∙◌, inl, inr}
use Rattle.std.proofs.lemmas.Bool.{eq-eqb, eqb-true, false≢true, not-true, or_cases}
use Rattle.std.specs.Prelude.{◌==◌, ◌&&◌, ◌||◌, bit_and, is_some, not, unwrap_or}
use Rattle.std.specs.Int.Bits.{and_zero_r}
use Rattle.std.specs.List.{list_any}
use Rattle.std.specs.FinMap as fin
use Rattle.acl_perm.proofs.Bools.{and_true, or_true_right}
use Rattle.acl_perm.proofs.Sets.{has_bit-and, subset_test}
use Rattle.acl_perm.specs.Bits.{IsPerm, has_bit}
use Rattle.acl_posix.specs.Check.{Object, Requester, any_contains, any_matches, contains, entry_contains, grants, is_contained, is_member}
use Rattle.acl_posix.specs.Entries.{Entries}
use Rattle.acl_posix.specs.Mask.{effective_of}
use Rattle.acl_posix.specs.Tag.{Tag, user_obj, user, group_obj, group, mask, other, is_masked}
use Rattle.acl_posix.specs.Valid.{IsValid}
use Rattle.acl_posix.specs.internal.GroupSearch.{group_contains}
use Rattle.acl_posix.proofs.Exports.{any_group, contained_some, contains_empty}
use Rattle.acl_nfs4.specs.Ace.{Ace}
use Rattle.acl_to_posix.specs.ToPosix.{HasShape, IsBest, IsGreatest, IsSound, EntryShape, is_in_class, is_in_shape, looks_at}
use Rattle.acl_eval.proofs.Images.{same_below}
use Rattle.acl_eval.proofs.ValidChecks.{Complete, class_plain, contains_none, contains_there, has_mask, mask_contains, same_choice, valid_is_complete}

-- ---- members

-- some member of a list passes a test
pub any_member : (p : ℕ → Bool) (xs : List ℕ) (n : ℕ) → is_member n xs ≡ true → p n ≡ true → list_any p xs ≡ true
any_member p [] n has h = absurd cc
any_member p (x ∷ xs) n has h = by (λ g. any_member p xs n g h) (x == n) refl has
  where
    by : (is_member n xs ≡ true → list_any p xs ≡ true) → (b : Bool) → (x == n) ≡ b → (b || is_member n xs) ≡ true
        → (p x || list_any p xs) ≡ true
    by rest true e has = ap (λ (b : Bool). b || list_any p xs) (ap p (eqb-true x n e) ∙ h)
    by rest false e has = ap (λ (b : Bool). p x || b) (rest has) ∙ or_true_right (p x)

-- if some element passes a test, there is a member that does
pub some_member : (p : ℕ → Bool) (xs : List ℕ) → list_any p xs ≡ true → (n : ℕ) × (is_member n xs ≡ true) × (p n ≡ true)
some_member p [] h = absurd cc
some_member p (x ∷ xs) h = by (some_member p xs) (p x) refl h
  where
    by : (list_any p xs ≡ true → (n : ℕ) × (is_member n xs ≡ true) × (p n ≡ true)) → (b : Bool) → p x ≡ b
        → (b || list_any p xs) ≡ true → (n : ℕ) × (is_member n (x ∷ xs) ≡ true) × (p n ≡ true)
    by rest true e h = (x, ap (λ (b : Bool). b || is_member x xs) (eq-eqb x x refl), e)
    by rest false e h = let (n, has, passes) = rest h in
        (n, ap (λ (b : Bool). (x == n) || b) has ∙ or_true_right (x == n), passes)

-- two tests that agree pass alike
any_same : (p q : ℕ → Bool) (xs : List ℕ) → ((n : ℕ) → p n ≡ q n) → list_any p xs ≡ list_any q xs
any_same p q [] same = refl
any_same p q (x ∷ xs) same = ap (λ (b : Bool). b || list_any p xs) (same x)
    ∙ ap (λ (b : Bool). q x || b) (any_same p q xs same)

-- ---- the check by entries

-- the entry contains the request, and so does MASK if it limits the entry
abbrev pub holds : Entries → Tag → ℕ → Bool
holds E user_obj want = entry_contains E user_obj want
holds E (user id) want = entry_contains E (user id) want && mask_contains E want
holds E group_obj want = entry_contains E group_obj want && mask_contains E want
holds E (group id) want = entry_contains E (group id) want && mask_contains E want
holds E mask want = false
holds E other want = entry_contains E other want

-- what holds is contained
pub held : (E : Entries) (t : Tag) (want : ℕ) → holds E t want ≡ true → entry_contains E t want ≡ true
held E user_obj want h = h
held E (user id) want h = (and_true (entry_contains E (user id) want) (mask_contains E want) h).0
held E group_obj want h = (and_true (entry_contains E group_obj want) (mask_contains E want) h).0
held E (group id) want h = (and_true (entry_contains E (group id) want) (mask_contains E want) h).0
held E mask want h = absurd (false≢true h)
held E other want h = h

-- what is contained holds, if MASK contains the request where it limits the entry
pub holding : (E : Entries) (t : Tag) (want : ℕ) → (t ≡ mask → ⊥) → entry_contains E t want ≡ true
    → (is_masked t ≡ true → mask_contains E want ≡ true) → holds E t want ≡ true
holding E user_obj want some h m = h
holding E (user id) want some h m = rw (h, m refl) refl
holding E group_obj want some h m = rw (h, m refl) refl
holding E (group id) want some h m = rw (h, m refl) refl
holding E mask want some h m = absurd (some refl)
holding E other want some h m = h

-- the check with MASK tested once
abbrev pub choice : Entries → Object → Requester → ℕ → Bool
choice E object requester want =
    cond (requester.user == object.user) (entry_contains E user_obj want)
    (cond (fin.contains_key E (user requester.user))
    (entry_contains E (user requester.user) want && mask_contains E want)
    (cond (any_matches E object.group requester.groups)
    (any_contains E object.group requester.groups want && mask_contains E want)
    (entry_contains E other want)))

-- this check answers as the check of acl(5) does
pub choice_is : (E : Entries) (object : Object) (requester : Requester) (want : ℕ) → IsValid E → contains 7 want ≡ true
    → choice E object requester want ≡ grants E object requester want
unfolding grants
choice_is E object requester want valid whole =
    let c = valid_is_complete E valid in
    let u : Tag = user requester.user in
    same_choice (requester.user == object.user) (λ _. refl)
    (same_choice (fin.contains_key E u)
    (λ has. ap (λ (b : Bool). entry_contains E u want && b)
    (contains_there (fin.get E mask) 7 want (has_mask E u c refl has)))
    (same_choice (any_matches E object.group requester.groups)
    (λ matched. class_plain E object.group want requester.groups c whole matched) refl))

-- an entry contains the empty request if it is there
pub contains_nothing : (o : Option ℕ) → is_contained o 0 ≡ is_some o
contains_nothing None = refl
contains_nothing (Some n) = rw (and_zero_r n) refl

-- some entry matches if some group of the requester is the owning group or has an entry
matched : (shape : EntryShape) (E : Entries) (og : ℕ) (gs : List ℕ) → Complete E → HasShape shape E
    → any_matches E og gs ≡ list_any (λ id. id == og || is_member id shape.groups) gs
matched shape E og gs c s =
    sym (contains_empty E og gs) ∙ sym (any_group E og 0 gs)
    ∙ any_same (group_contains E og 0) (λ id. id == og || is_member id shape.groups) gs one
  where
    one : (n : ℕ) → group_contains E og 0 n ≡ (n == og || is_member n shape.groups)
    one n = by (n == og) (contains_none (fin.get E group_obj) c.group)
        (contains_nothing (fin.get E (group n)) ∙ s.groups n)
      where
        by : (b : Bool) {x y z : Bool} → x ≡ true → y ≡ z → ((b && x) || y) ≡ (b || z)
        by true e f = rw e refl
        by false e f = f

-- a request that a requester is granted is held by an entry of the shape at which the check looks
pub record IsLookedAt (shape : EntryShape) (E : Entries) (object : Object) (requester : Requester) (want : ℕ)
    : Type 0 where
  pub entry : Tag
  pub there : is_in_shape shape entry ≡ true
  pub looks : looks_at shape object requester entry ≡ true
  pub holds : holds E entry want ≡ true

-- for a requester who is not the owner and has no entry, whom a group of the requester matches
looked_class : (shape : EntryShape) (E : Entries) (object : Object) (requester : Requester) (want : ℕ)
    → HasShape shape E → is_in_class shape object requester ≡ true
    → (any_contains E object.group requester.groups want && mask_contains E want) ≡ true
    → IsLookedAt shape E object requester want
looked_class shape E object requester want s outside h =
    let both = and_true (any_contains E object.group requester.groups want) (mask_contains E want) h in
    let (g, has, passes) = some_member (group_contains E object.group want) requester.groups
    (any_group E object.group want requester.groups ∙ both.0) in
    elim (or_cases ((g == object.group) && entry_contains E group_obj want) (entry_contains E (group g) want) passes) [
      | inl owning ↦
          let two = and_true (g == object.group) (entry_contains E group_obj want) owning in record {
            entry = group_obj;
            there = refl;
            looks =
                rw outside (ap (λ (n : ℕ). is_member n requester.groups) (sym (eqb-true g object.group two.0)) ∙ has);
            holds = rw (two.1, both.1) refl;
          }
      | inr named ↦
          let in_shape : is_member g shape.groups ≡ true =
          sym (s.groups g) ∙ contained_some (fin.get E (group g)) want named in record {
            entry = group g;
            there = in_shape;
            looks = rw (outside, has, in_shape) refl;
            holds = rw (named, both.1) refl;
          }
    ]

-- if a requester is granted a request, an entry at which the check looks has the request
pub looked : (shape : EntryShape) (E : Entries) (object : Object) (requester : Requester) (want : ℕ) → IsValid E
    → HasShape shape E → contains 7 want ≡ true → grants E object requester want ≡ true
    → IsLookedAt shape E object requester want
looked shape E object requester want valid s whole granted =
    by (requester.user == object.user) (is_member requester.user shape.users)
    (list_any (λ id. id == object.group || is_member id shape.groups) requester.groups) refl refl refl
    (rw (
      sym (s.users requester.user),
      sym
          (matched shape E object.group requester.groups (valid_is_complete E valid) s),
    )
    (choice_is E object requester want valid whole ∙ granted))
  where
    by : (o u m : Bool) → (requester.user == object.user) ≡ o → is_member requester.user shape.users ≡ u
        → list_any (λ id. id == object.group || is_member id shape.groups) requester.groups ≡ m
        → cond (requester.user == object.user) (entry_contains E user_obj want)
        (cond (is_member requester.user shape.users)
        (entry_contains E (user requester.user) want && mask_contains E want)
        (cond (list_any (λ id. id == object.group || is_member id shape.groups) requester.groups)
        (any_contains E object.group requester.groups want && mask_contains E want)
        (entry_contains E other want))) ≡ true
        → IsLookedAt shape E object requester want
    by true u m oe ue me h = record { entry = user_obj; there = refl; looks = oe; holds = rw oe at h }
    by false true m oe ue me h = record {
      entry = user requester.user;
      there = ue;
      looks = rw (oe, ue, eq-eqb requester.user requester.user refl) refl;
      holds = rw (oe, ue) at h;
    }
    by false false true oe ue me h =
        looked_class shape E object requester want s (rw (oe, ue) refl) (rw (oe, ue, me) at h)
    by false false false oe ue me h = record {
      entry = other;
      there = refl;
      looks = rw (oe, ue, me) refl;
      holds = rw (oe, ue, me) at h;
    }

-- the two parts of a requester who is not the owner and has no entry
pub class_parts : (shape : EntryShape) (object : Object) (requester : Requester)
    → is_in_class shape object requester ≡ true
    → ((requester.user == object.user) ≡ false) × (is_member requester.user shape.users ≡ false)
class_parts shape object requester h =
    let two = and_true (not (requester.user == object.user)) (not (is_member requester.user shape.users)) h in
    (not-true _ two.0, not-true _ two.1)

-- for such a requester, a group that is the owning group or has an entry, and an entry of a group, decide
class_granted : (shape : EntryShape) (E : Entries) (object : Object) (requester : Requester) (want g : ℕ) → IsValid E
    → HasShape shape E → contains 7 want ≡ true → is_in_class shape object requester ≡ true
    → is_member g requester.groups ≡ true → (g == object.group || is_member g shape.groups) ≡ true
    → group_contains E object.group want g ≡ true → mask_contains E want ≡ true
    → grants E object requester want ≡ true
class_granted shape E object requester want g valid s whole outside has named passes m =
    let two = class_parts shape object requester outside in
    sym (choice_is E object requester want valid whole)
    ∙ rw (
      two.0,
      s.users requester.user,
      two.1,
      matched shape E object.group requester.groups (valid_is_complete E valid) s,
      any_member (λ id. id == object.group || is_member id shape.groups) requester.groups g has named,
      sym (any_group E object.group want requester.groups),
      any_member (group_contains E object.group want) requester.groups g has passes,
      m,
    ) refl

-- a request that an entry at which the check looks holds is granted
pub granted : (shape : EntryShape) (E : Entries) (object : Object) (requester : Requester) (want : ℕ) (t : Tag)
    → IsValid E → HasShape shape E → contains 7 want ≡ true → looks_at shape object requester t ≡ true
    → holds E t want ≡ true → grants E object requester want ≡ true
granted shape E object requester want user_obj valid s whole l h =
    sym (choice_is E object requester want valid whole) ∙ rw l h
granted shape E object requester want (user id) valid s whole l h =
    let one = and_true (not (requester.user == object.user)) _ l in
    let two = and_true (requester.user == id) (is_member id shape.users) one.1 in
    let same : requester.user ≡ id = eqb-true requester.user id two.0 in
    sym (choice_is E object requester want valid whole)
    ∙ rw (not-true _ one.0, ap (λ (n : ℕ). fin.contains_key E (user n)) same ∙ (s.users id ∙ two.1))
    (ap (λ (n : ℕ). entry_contains E (user n) want && mask_contains E want) same ∙ h)
granted shape E object requester want group_obj valid s whole l h =
    let one = and_true (is_in_class shape object requester) _ l in
    let both = and_true (entry_contains E group_obj want) (mask_contains E want) h in
    class_granted shape E object requester want object.group valid s whole one.0 one.1
    (rw (eq-eqb object.group object.group refl) refl) (rw (eq-eqb object.group object.group refl, both.0) refl) both.1
granted shape E object requester want (group id) valid s whole l h =
    let one = and_true (is_in_class shape object requester) _ l in
    let two = and_true (is_member id requester.groups) (is_member id shape.groups) one.1 in
    let both = and_true (entry_contains E (group id) want) (mask_contains E want) h in
    class_granted shape E object requester want id valid s whole one.0 two.0
    (rw two.1 (or_true_right (id == object.group))) (rw both.0 (or_true_right _)) both.1
granted shape E object requester want mask valid s whole l h = absurd (false≢true l)
granted shape E object requester want other valid s whole l h =
    let one = and_true (is_in_class shape object requester) _ l in
    let two = class_parts shape object requester one.0 in
    sym (choice_is E object requester want valid whole)
    ∙ rw (
      two.0,
      s.users requester.user,
      two.1,
      matched shape E object.group requester.groups (valid_is_complete E valid) s,
      not-true _ one.1,
    ) h

-- ---- the ACL of a shape

-- a set of permissions is within all permissions
pub all_contain : (want : ℕ) → IsPerm want → contains 7 want ≡ true
all_contain want few = same_below 8 (λ w. contains 7 w) (λ w. true) refl want few

-- the ACL of a shape is sound
pub best_sound : (list : List Ace) (shape : EntryShape) (E : Entries) → IsBest list shape E → IsSound list E
best_sound list shape E best object requester asked want few allowed =
    let at = looked shape E object requester want best.valid.valid best.shaped (all_contain want few) allowed in
    (best.each at.entry at.there want few).0 (held E at.entry want at.holds) object requester asked at.looks

-- what MASK leaves of an entry contains what the entry contains, if MASK takes nothing away
mask_keeps : (o : Option ℕ) (p want : ℕ) → bit_and p (unwrap_or o p) ≡ p → contains 7 want ≡ true
    → contains p want ≡ true → contains (unwrap_or o 7) want ≡ true
mask_keeps None p want kept whole h = whole
mask_keeps (Some m) p want kept whole h = (subset_test m want).1 (λ k hk.
    (and_true (has_bit p k) (has_bit m k)
    (sym (has_bit-and p m k) ∙ ap (λ (n : ℕ). has_bit n k) kept ∙ (subset_test p want).0 h k hk)).1)

-- an entry of an ACL of a shape that contains a request holds it
pub best_holds : (list : List Ace) (shape : EntryShape) (E : Entries) (t : Tag) (want : ℕ) → IsBest list shape E
    → is_in_shape shape t ≡ true → contains 7 want ≡ true → entry_contains E t want ≡ true → holds E t want ≡ true
best_holds list shape E t want best there whole h =
    holding E t want (λ e. false≢true (sym (ap (is_in_shape shape) e) ∙ there)) h (by (fin.get E t) refl h)
  where
    by : (o : Option ℕ) → fin.get E t ≡ o → is_contained o want ≡ true → is_masked t ≡ true
        → mask_contains E want ≡ true
    by None e h m = absurd (false≢true h)
    by (Some p) e h m = mask_keeps (fin.get E mask) p want (unmasked m (best.kept (t, p) e)) whole h
      where
        unmasked : is_masked t ≡ true → effective_of E (t, p) ≡ p → bit_and p (unwrap_or (fin.get E mask) p) ≡ p
        unmasked m kept = rw m at kept

-- no sound ACL of the shape grants more
pub best_greatest : (list : List Ace) (shape : EntryShape) (E : Entries) → IsBest list shape E → IsGreatest list shape E
best_greatest list shape E best one acl shaped sound request few object requester parties allowed =
    let whole = all_contain request few in
    let at = looked shape one object requester request acl.valid shaped whole allowed in
    let has = (best.each at.entry at.there request few).1 (λ o r asked looks. sound o r asked request few
    (granted shape one o r request at.entry acl.valid shaped whole looks at.holds)) in
    granted shape E object requester request at.entry best.valid.valid best.shaped whole at.looks
    (best_holds list shape E at.entry request best at.there whole has)

-- nor does one of any shape that the ACL has
pub best_greatest_of_shape : (list : List Ace) (shape : EntryShape) (E : Entries) → IsBest list shape E
    → (same : EntryShape) → HasShape same E → IsGreatest list same E
best_greatest_of_shape list shape E best same had one acl shaped sound =
    best_greatest list shape E best one acl (record {
      users = λ id. shaped.users id ∙ (sym (had.users id) ∙ best.shaped.users id);
      groups = λ id. shaped.groups id ∙ (sym (had.groups id) ∙ best.shaped.groups id);
    }) sound
