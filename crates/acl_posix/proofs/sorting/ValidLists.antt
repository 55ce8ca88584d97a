-- Lists in which no tag occurs twice, lists in canonical order, the first repeat, and the one fault of a list.
use Rattle.acl_posix.proofs.Common.{[], AclFault, Any-from_list_any, ap, apart_from_distinct, arith, as_set, Bool, cases_lt, code_cmp, cond, cond_both, Duplicate, Entries, Entry, eq_by_cmp, eq_by_cmp_equiv, Err, false, false_from_ne_true, get_or, get_or-take, get_or_default, group_obj, IfErr, inl, inr, is_at, is_less, is_lt, is_named, is_refusal, is_some, IsAllAdjacentAnswer, IsDistinct, IsDistinct-from_apart, IsDistinct-from_sorted, IsFaultOf, IsFirstRepeat, IsMiss, IsRefusedWith, IsRepeat, IsSorted, IsStrictlySortedBy, IsTrue, IsValidList, length, length-map, length-take-le, Less-from_sorted, List, list_any, list_any_at, list_any_more, lookup, map, mask, Memory, Miss, missing, Multi, None, Ok, OnOk, other, pair_of, pairs, refl, repeat_fault, Result, Some, sorted_from_all_adjacent, subst, sym, Tag, tag_at, tag_cmp, tag_of, TagOfCode, tags, tags_total, take, true, unwrap_or, user_obj, ℕ, ◌+◌, ◌<◌, ◌||◌, ◌↔◌, ◌∙◌, ◌∷◌, ◌≡◌}
use Rattle.std.proofs.Math.ListN.{get_or-map}
use Rattle.acl_perm.specs.declared.perm.Perm.{Perm}
use Rattle.acl_posix.proofs.tag.Tags.{length-tags, length-tags_of, same_tag, tag_read}
use Rattle.std.specs.List as lists

-- ---- lists in which no tag occurs twice

-- any two tags of a list differ
abbrev pub AreApart : List (Tag × ℕ) → Type 0
AreApart ps = lists.IsDistinct (eq_by_cmp tag_cmp) (tags ps)

-- equal tags do not compare as different
same_not_unequal : (s t : Tag) → s ≡ t → eq_by_cmp tag_cmp s t ≡ false → ⊥
same_not_unequal s t same differ =
    let wrong = sym (ap (eq_by_cmp tag_cmp s) (sym same) ∙ (eq_by_cmp_equiv tags_total).refl s) ∙ differ in absurd cc

-- if any two tags of a list differ, no tag occurs twice
pub apart_distinct : (ps : List (Tag × ℕ)) → AreApart ps → IsDistinct ps
apart_distinct ps apart place lt repeat =
    same_not_unequal _ _ repeat.same (apart_from_distinct (eq_by_cmp tag_cmp) (tags ps) repeat.earlier place other apart
    repeat.before (omega (arith, lt, length-tags_of ps)))

-- if no tag occurs twice in a list, any two of its tags differ
pub distinct_apart : (ps : List (Tag × ℕ)) → IsDistinct ps → AreApart ps
distinct_apart ps distinct = IsDistinct-from_apart (eq_by_cmp tag_cmp) (tags ps) (λ i j d before lt.
    false_from_ne_true _ (λ is. distinct j (omega (arith, lt, length-tags_of ps)) (record {
      earlier = i;
      before = before;
      same = get_or_default (tags ps) i other d (omega arith) ∙ same_tag _ _ is ∙ get_or_default (tags ps) j d other lt;
    })))

-- in a list in canonical order no tag occurs twice
pub sorted_distinct : (ps : List (Tag × ℕ)) → IsSorted ps → IsDistinct ps
sorted_distinct ps h = apart_distinct ps (IsDistinct-from_sorted tag_cmp (tags ps) h)

-- ---- lists in canonical order

-- a test of each element and the next, which compares their tags, says whether the list is in canonical order
pub in_order : {X : Type 0} (tag : X → Tag) (less : X → X → Bool) (xs : List X) (r : Bool)
    → ((k : ℕ) (d : X) → k + 1 < length xs
    → less (get_or xs k d) (get_or xs (k + 1) d) ≡ is_lt (tag_cmp (tag (get_or xs k d)) (tag (get_or xs (k + 1) d))))
    → IsAllAdjacentAnswer (λ x y b. b ≡ less x y) xs r → IsTrue r ↔ IsStrictlySortedBy tag_cmp (map tag xs)
in_order tag less [] true same up =
    (λ yes. sorted_from_all_adjacent tags_total [] other (λ k lt. absurd (omega (arith, lt))), λ sorted. refl)
in_order tag less [] false same (k, lt, down) = absurd (omega (arith, lt))
in_order tag less (x ∷ xs) true same up = (
  λ yes. sorted_from_all_adjacent tags_total (map tag (x ∷ xs)) (tag x) (λ k lt.
      let within : k + 1 < length (x ∷ xs) = omega (arith, lt, length-map (x ∷ xs) tag) in
      rw (get_or-map tag (x ∷ xs) k x, get_or-map tag (x ∷ xs) (k + 1) x)
      (is_less _ (sym (same k x within) ∙ sym (up k x within)))),
  λ sorted. refl,
)
in_order tag less (x ∷ xs) false same (k, lt, down) = (
  λ no. absurd cc,
  λ sorted.
      let less_at = rw (get_or-map tag (x ∷ xs) k x, get_or-map tag (x ∷ xs) (k + 1) x) at
      (Less-from_sorted tag_cmp (map tag (x ∷ xs)) k (k + 1) (tag x) sorted (omega arith)
      (omega (arith, lt, length-map (x ∷ xs) tag))) in
      down x ∙ same k x lt ∙ ap is_lt less_at,
)

-- ---- the first tag that occurs twice

-- a tag is among those before a place if and only if the place repeats one of them
repeats : (ps : List (Tag × ℕ)) (i : ℕ) → i < length ps
    → (list_any (eq_by_cmp tag_cmp (tag_at ps i)) (take i (tags ps)) ≡ true) ↔ IsRepeat ps i
repeats ps i lt =
    let len = length-tags_of ps in
    let long : length (take i (tags ps)) ≡ i = length-take-le i (tags ps) (omega arith) in (
      λ some. let one = Any-from_list_any (eq_by_cmp tag_cmp (tag_at ps i)) (take i (tags ps)) some in
          let before : one.0 < i = omega (arith, one.2, long) in
          record {
            earlier = one.0;
            before = before;
            same = get_or_default (tags ps) one.0 other one.1 (omega arith)
                ∙ sym (get_or-take i (tags ps) one.0 one.1 before) ∙ one.3 ∙ sym (same_tag _ _ one.4);
          },
      λ repeat. list_any_at _ (take i (tags ps)) repeat.earlier other (omega (arith, long, repeat.before))
          (ap (eq_by_cmp tag_cmp (tag_at ps i)) (get_or-take i (tags ps) repeat.earlier other repeat.before
          ∙ repeat.same) ∙ (eq_by_cmp_equiv tags_total).refl (tag_at ps i)),
    )

-- the map has the tags before a place, and none of them repeats one
pub record IsSeen (es : List Entry) (i : ℕ) (seen : List (TagOfCode × Perm)) : Type 0 where
  pub tags_of : (t : TagOfCode)
      → is_some (lookup (is_at (code_cmp t)) seen) ≡ list_any (eq_by_cmp tag_cmp (tag_of t)) (take i (tags (pairs es)))
  pub distinct : (place : ℕ) → place < i → IsRepeat (pairs es) place → ⊥

-- the tag at the place of an entry is the tag of that entry
tag_here : (es : List Entry) (i : ℕ) (e : Entry) → i < length es → e ≡ get_or es i e
    → tag_at (pairs es) i ≡ tag_of e.tag
tag_here es i e lt read = tag_read es i e other lt ∙ ap (λ (x : Entry). tag_of x.tag) (sym read)

-- true if a test holds, and otherwise a second test, is one test or the other
cond_or : (a b : Bool) → cond a true b ≡ (b || a)
cond_or a b = grind arith

-- an entry whose tag is new is put into the map
pub seen_more : {es : List Entry} {i : ℕ} {e : Entry} {old new : List (TagOfCode × Perm)} → i < length es
    → e ≡ get_or es i e → IsSeen es i old → is_some (lookup (is_at (code_cmp e.tag)) old) ≡ false
    → ((q : TagOfCode) → is_some (lookup (is_at (code_cmp q)) new)
    ≡ cond (is_at (code_cmp e.tag) q) true (is_some (lookup (is_at (code_cmp q)) old))) → IsSeen es (i + 1) new
seen_more {es} {i} {e} lt read so_far was updates = record {
  tags_of = λ t. updates t ∙ ap (cond (is_at (code_cmp e.tag) t) true) (so_far.tags_of t)
      ∙ cond_or (is_at (code_cmp e.tag) t) (list_any (eq_by_cmp tag_cmp (tag_of t)) (take i (tags (pairs es))))
      ∙ ap (λ b. list_any (eq_by_cmp tag_cmp (tag_of t)) (take i (tags (pairs es))) || b)
      ((eq_by_cmp_equiv tags_total).symm (tag_of e.tag) (tag_of t) ∙ ap (eq_by_cmp tag_cmp (tag_of t)) (sym at))
      ∙ sym (list_any_more (eq_by_cmp tag_cmp (tag_of t)) (tags (pairs es)) i other within);
  distinct = λ place below repeat. elim (cases_lt place i) [
    | inl before ↦ so_far.distinct place before repeat
    | inr after ↦
        let here : place ≡ i = omega arith in
        let found = (repeats (pairs es) i inside).1 (subst (IsRepeat (pairs es)) here repeat) in
        let wrong = sym found ∙ ap (λ l. list_any (eq_by_cmp tag_cmp l) (take i (tags (pairs es)))) at
        ∙ sym (so_far.tags_of e.tag) ∙ was in absurd cc
  ];
}
  where
    inside : i < length (pairs es)
    inside = omega (arith, lt, length-map es pair_of)

    within : i < length (tags (pairs es))
    within = omega (arith, lt, length-tags es)

    at : tag_at (pairs es) i ≡ tag_of e.tag
    at = tag_here es i e lt read

-- an entry whose tag the map has is the first repeat
pub seen_again : {es : List Entry} {i : ℕ} {e : Entry} {old : List (TagOfCode × Perm)} → i < length es
    → e ≡ get_or es i e → IsSeen es i old → is_some (lookup (is_at (code_cmp e.tag)) old) ≡ true
    → IsFaultOf (pairs es) (repeat_fault (tag_of e.tag) i)
seen_again {es} {i} {e} lt read so_far was =
    cond_both (is_named (tag_of e.tag)) (Duplicate i) (Multi i) (λ fault. IsFaultOf (pairs es) fault)
    (λ is. (first, ap is_named at ∙ is)) (λ is. (first, ap is_named at ∙ is))
  where
    at : tag_at (pairs es) i ≡ tag_of e.tag
    at = tag_here es i e lt read

    inside : i < length (pairs es)
    inside = omega (arith, lt, length-map es pair_of)

    first : IsFirstRepeat (pairs es) i
    first = record {
      in_range = inside;
      repeats = (repeats (pairs es) i inside).0 (ap (λ l. list_any (eq_by_cmp tag_cmp l) (take i (tags (pairs es)))) at
          ∙ sym (so_far.tags_of e.tag) ∙ was);
      first = so_far.distinct;
    }

-- ---- the faults of a list

-- a list has one first repeat
pub same_first : (ps : List (Tag × ℕ)) (i j : ℕ) → IsFirstRepeat ps i → IsFirstRepeat ps j → i ≡ j
same_first ps i j a b =
    let not_below : i < j → ⊥ = λ below. b.first i below a.repeats in
    let not_above : j < i → ⊥ = λ below. a.first j below b.repeats in
    grind arith

-- a list in which no tag occurs twice has no first repeat
no_repeat : (ps : List (Tag × ℕ)) (i : ℕ) → IsDistinct ps → IsFirstRepeat ps i → ⊥
no_repeat ps i distinct first = distinct i first.in_range first.repeats

-- the tag of the first repeat does not both have a qualifier and have none
named_or_not : (ps : List (Tag × ℕ)) (i j : ℕ) → IsFirstRepeat ps i → IsFirstRepeat ps j
    → is_named (tag_at ps i) ≡ false → is_named (tag_at ps j) ≡ true → ⊥
named_or_not ps i j a b plain named =
    let wrong = sym plain ∙ ap (λ n. is_named (tag_at ps n)) (same_first ps i j a b) ∙ named in absurd cc

-- what can be absent has no qualifier
absent_unnamed : (a b c d : Bool) (l : Tag)
    → cond a (Some user_obj) (cond b (Some group_obj) (cond c (Some other) (cond d (Some mask) None))) ≡ Some l
    → is_named l ≡ false
absent_unnamed false false false false l e = absurd cc
absent_unnamed a b c d l e = ap (λ o. is_named (unwrap_or o other)) (sym e)

-- the first absent tag of a set has no qualifier
missing_unnamed : (E : Entries) (l : Tag) → missing E ≡ Some l → is_named l ≡ false
unfolding missing
missing_unnamed E l e = absent_unnamed _ _ _ _ l e

-- a tag of the code without a qualifier is determined by its plain data
same_code : (s t : TagOfCode) → tag_of s ≡ tag_of t → is_named (tag_of s) ≡ false → s ≡ t
same_code s t same plain = grind arith

-- two tags that are the first absent one of a list are the same
pub same_miss : (ps : List (Tag × ℕ)) (s t : TagOfCode) → IsMiss ps (tag_of s) → IsMiss ps (tag_of t) → s ≡ t
same_miss ps s t a b = same_code s t (ap (λ o. unwrap_or o other) (sym a.absent ∙ b.absent))
    (missing_unnamed (as_set ps) (tag_of s) a.absent)

-- a list has at most one fault, apart from `Memory`
pub one_fault : (ps : List (Tag × ℕ)) (f g : AclFault) → IsTrue (is_refusal f) → IsTrue (is_refusal g)
    → IsFaultOf ps f → IsFaultOf ps g → f ≡ g
one_fault ps (Multi i) (Multi j) p q a b = ap Multi (same_first ps i j a.0 b.0)
one_fault ps (Multi i) (Duplicate j) p q a b = absurd (named_or_not ps i j a.0 b.0 a.1 b.1)
one_fault ps (Multi i) (Miss t) p q a b = absurd (no_repeat ps i b.distinct a.0)
one_fault ps (Duplicate i) (Multi j) p q a b = absurd (named_or_not ps j i b.0 a.0 b.1 a.1)
one_fault ps (Duplicate i) (Duplicate j) p q a b = ap Duplicate (same_first ps i j a.0 b.0)
one_fault ps (Duplicate i) (Miss t) p q a b = absurd (no_repeat ps i b.distinct a.0)
one_fault ps (Miss s) (Multi j) p q a b = absurd (no_repeat ps j a.distinct b.0)
one_fault ps (Miss s) (Duplicate j) p q a b = absurd (no_repeat ps j a.distinct b.0)
one_fault ps (Miss s) (Miss t) p q a b = ap Miss (same_miss ps s t a b)
one_fault ps f g p q a b = absurd cc

-- a valid list has no fault, apart from `Memory`
pub no_fault : (ps : List (Tag × ℕ)) (f : AclFault) → IsValidList ps → IsTrue (is_refusal f) → IsFaultOf ps f → ⊥
no_fault ps (Multi i) h p a = no_repeat ps i h.distinct a.0
no_fault ps (Duplicate i) h p a = no_repeat ps i h.distinct a.0
no_fault ps (Miss t) h p a = let wrong = sym h.complete ∙ a.absent in absurd cc
no_fault ps Memory h p a = absurd cc

-- if an Ok means a valid list and an Err has a fault of the list, a list with a fault is refused with that fault
pub refused_from : {X : Type 0} (ps : List (Tag × ℕ)) (r : Result X AclFault) (fault : AclFault)
    → OnOk r (IsValidList ps) → IfErr r (IsFaultOf ps) → IsTrue (is_refusal fault) → IsFaultOf ps fault
    → IsRefusedWith r fault
refused_from ps (Ok x) fault valid found p is = no_fault ps fault valid p is
refused_from ps (Err f) fault valid found p is = λ q. one_fault ps f fault q p found is
