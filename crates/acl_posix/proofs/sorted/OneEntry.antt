-- When a set is valid, and what changes if one entry is put into the set or taken out.
use Rattle.acl_posix.proofs.Common.{[], AclFault, Any-from_list_any, ap, arith, as_set, Bool, cond, cond_both, Entries, eq_by_cmp, eq_by_cmp_equiv, Err, false, false_from_ne_true, group, group_class, group_obj, IfErr, is_named, is_some, IsErr, IsErrAnd, IsFaultOfSet, IsSome, IsSorted, IsStrictlySortedBy, IsValid, List, list_any, list_any_at, mask, Memory, missing, Ok, OnErr, OnOk, other, refl, Result, Some, subst, sym, Tag, tag_cmp, tags, tags_total, true, user, user_obj, with_mode, ℕ, ◌∙◌, ◌∷◌, ◌≡◌, not, ◌&&◌}
use Rattle.std.specs.FinMap as fin
use Rattle.acl_posix.specs.internal.Required.{is_required, lacks_mask_for}
use Rattle.acl_posix.proofs.tag.Tags.{same_tag}
use Rattle.acl_posix.proofs.sorted.Lists.{entries_in_order}

-- a tag compares as equal to itself
pub eq_by_cmp-refl : (t : Tag) → eq_by_cmp tag_cmp t t ≡ true
eq_by_cmp-refl t = (eq_by_cmp_equiv tags_total).refl t

-- a set with an entry of a tag with a qualifier has a USER or GROUP entry
any_named : (E : Entries) (t : Tag) → is_named t ≡ true → IsSome (fin.get E t) → list_any is_named (fin.keys E) ≡ true
any_named E t named some =
    let one = Any-from_list_any (eq_by_cmp tag_cmp t) (fin.keys E) (sym (fin.contains_key-keys E t) ∙ some) in
    list_any_at is_named (fin.keys E) one.0 one.1 one.2 (ap is_named (one.3 ∙ sym (same_tag t one.1 one.4)) ∙ named)

-- a set with all USER and GROUP tags of another has such an entry if that other has one
named_in : (D E : Entries) → ((t : Tag) → is_named t ≡ true → IsSome (fin.get D t) → IsSome (fin.get E t))
    → list_any is_named (fin.keys D) ≡ true → list_any is_named (fin.keys E) ≡ true
named_in D E to any =
    let one = Any-from_list_any is_named (fin.keys D) any in
    any_named E one.1 one.4 (to one.1 one.4 (fin.contains_key-keys D one.1
    ∙ list_any_at (eq_by_cmp tag_cmp one.1) (fin.keys D) one.0 one.1 one.2 (ap (eq_by_cmp tag_cmp one.1) one.3
    ∙ eq_by_cmp-refl one.1)))

-- the set has the three entries, and a MASK if it has a USER or GROUP entry
pub record IsComplete (E : Entries) : Type 0 where
  pub owner : IsSome (fin.get E user_obj)
  pub class : IsSome (fin.get E group_obj)
  pub others : IsSome (fin.get E other)
  pub limited : list_any is_named (fin.keys E) ≡ true → IsSome (fin.get E mask)

-- a valid set has what it needs
pub complete_from_valid : (E : Entries) → IsValid E → IsComplete E
unfolding missing
complete_from_valid E h =
    record { owner = grind arith; class = grind arith; others = grind arith; limited = λ any. grind arith }

-- a set that has what it needs is valid
valid_from_complete : (E : Entries) → IsComplete E → IsValid E
unfolding missing
valid_from_complete E h = grind (arith, h.owner, h.class, h.others, h.limited)

-- a set with the three entries and a USER or GROUP entry, and without a MASK, lacks the MASK
lacks_mask : (E : Entries) → IsSome (fin.get E user_obj) → IsSome (fin.get E group_obj) → IsSome (fin.get E other)
    → list_any is_named (fin.keys E) ≡ true → is_some (fin.get E mask) ≡ false → missing E ≡ Some mask
unfolding missing
lacks_mask E owner class others named none = rw (owner, class, others, named, none) refl

-- a tag of an entry for which a MASK is lacking is USER or GROUP, and there is no MASK
without_mask : (named has : Bool) → (named && not has) ≡ true → (named ≡ true) × (has ≡ false)
without_mask named has lacks = grind (arith, lacks)

-- a valid set has no entry of a tag for which it lacks a MASK
pub no_named : (E : Entries) (l : Tag) → IsValid E → lacks_mask_for E l ≡ true → IsSome (fin.get E l) → ⊥
no_named E l h lacks some =
    let without = without_mask (is_named l) (is_some (fin.get E mask)) lacks in
    let wrong = sym without.1 ∙ (complete_from_valid E h).limited (any_named E l without.0 some) in absurd cc

-- a valid set has the entry that the group bits of its mode are
pub class_present : (E : Entries) → IsValid E → IsSome (fin.get E (group_class E))
class_present E h = cond_both (is_some (fin.get E mask)) mask group_obj (λ l. IsSome (fin.get E l)) (λ is. is)
    (λ none. (complete_from_valid E h).class)

-- the three entries of a mode are in canonical order
pub three_sorted : (a b c : ℕ) → IsSorted ((user_obj, a) ∷ (group_obj, b) ∷ (other, c) ∷ [])
unfolding IsStrictlySortedBy
three_sorted a b c = ((refl, (refl, tt)), ((refl, tt), (tt, tt)))

-- the three entries of a mode are valid
pub three_valid : (a b c : ℕ) → IsValid (as_set ((user_obj, a) ∷ (group_obj, b) ∷ (other, c) ∷ []))
three_valid a b c =
    let ps : List (Tag × ℕ) = (user_obj, a) ∷ (group_obj, b) ∷ (other, c) ∷ [] in
    valid_from_complete (as_set ps) (record {
      owner = ap is_some (fin.get-from_entries tags_total ps user_obj);
      class = ap is_some (fin.get-from_entries tags_total ps group_obj);
      others = ap is_some (fin.get-from_entries tags_total ps other);
      limited = λ any.
          let keys = ap (λ (qs : List (Tag × ℕ)). tags qs) (entries_in_order ps (three_sorted a b c)) in
          let wrong = sym (ap (λ ts. list_any is_named ts) keys) ∙ any in absurd cc;
    })

-- a tag without a qualifier is not equal to a tag with one
pub unnamed_is_not_named : (q l : Tag) → is_named q ≡ false → is_named l ≡ true → eq_by_cmp tag_cmp q l ≡ false
unnamed_is_not_named q l plain named =
    false_from_ne_true _ (λ is. let wrong = sym named ∙ ap is_named (sym (same_tag q l is)) ∙ plain in cc)

-- a tag that has an entry keeps one if an entry is put
pub present-insert : (E : Entries) (l q : Tag) (n : ℕ) → IsSome (fin.get E q) → IsSome (fin.get (fin.insert E l n) q)
present-insert E l q n some = rw (fin.get-insert tags_total E l n q)
    (cond_both (eq_by_cmp tag_cmp q l) (Some n) (fin.get E q) IsSome (λ same. refl) (λ differ. some))

-- whether a tag has an entry does not depend on an entry that is put for another tag
get-insert_other : (E : Entries) (l q : Tag) (n : ℕ) → eq_by_cmp tag_cmp q l ≡ false
    → is_some (fin.get (fin.insert E l n) q) ≡ is_some (fin.get E q)
get-insert_other E l q n differ = rw (fin.get-insert tags_total E l n q, differ) refl

-- a valid set stays valid with one more entry; for a USER or GROUP entry it needs a MASK
valid_put : (E : Entries) (l : Tag) (n : ℕ) → IsValid E → (is_named l ≡ true → IsSome (fin.get E mask))
    → IsValid (fin.insert E l n)
valid_put E l n h masked =
    let has = complete_from_valid E h in
    valid_from_complete (fin.insert E l n) (record {
      owner = present-insert E l user_obj n has.owner;
      class = present-insert E l group_obj n has.class;
      others = present-insert E l other n has.others;
      limited = λ any. present-insert E l mask n (cond_both (is_named l) true true (λ _. IsSome (fin.get E mask)) masked
          (λ plain. has.limited (named_in (fin.insert E l n) E (λ t named some.
          sym (get-insert_other E l t n ((eq_by_cmp_equiv tags_total).symm t l ∙ unnamed_is_not_named l t plain named))
          ∙ some) any)));
    })

-- a valid set stays valid with another mode
pub valid_mode : (E : Entries) (owner class others : ℕ) → IsValid E → IsValid (with_mode E owner class others)
valid_mode E owner class others h =
    valid_put _ other others (valid_put _ (group_class E) class (valid_put E user_obj owner h (λ named. absurd cc))
    (λ named. let wrong = sym (plain (is_some (fin.get E mask))) ∙ named in absurd cc)) (λ named. absurd cc)
  where
    plain : (b : Bool) → is_named (cond b mask group_obj) ≡ false
    plain b = grind arith

-- a call that sets MASK, or fails and changes nothing, leaves a valid set valid
pub masked_or_kept : {Fault : Type 0} (E D : Entries) (n : ℕ) (r : Result (Unit {0}) Fault)
    → OnOk r (D ≡ fin.insert E mask n) → OnErr r (D ≡ E) → IsValid E → IsValid D
masked_or_kept E D n (Ok x) ok err h = subst IsValid (sym ok) (valid_put E mask n h (λ named. absurd cc))
masked_or_kept E D n (Err fault) ok err h = subst IsValid (sym err) h

-- a valid set with an entry for which it lacks a MASK lacks the MASK
pub mask_absent : (E : Entries) (l : Tag) (n : ℕ) → IsValid E → lacks_mask_for E l ≡ true
    → missing (fin.insert E l n) ≡ Some mask
mask_absent E l n h lacks =
    let has = complete_from_valid E h in
    let without = without_mask (is_named l) (is_some (fin.get E mask)) lacks in
    let here : IsSome (fin.get (fin.insert E l n) l) = rw (fin.get-insert tags_total E l n l, eq_by_cmp-refl l) refl in
    lacks_mask (fin.insert E l n) (present-insert E l user_obj n has.owner) (present-insert E l group_obj n has.class)
    (present-insert E l other n has.others) (any_named (fin.insert E l n) l without.0 here)
    (get-insert_other E l mask n (unnamed_is_not_named mask l refl without.0) ∙ without.1)

-- a valid set stays valid with an entry for which it does not lack a MASK
pub valid_with : (E : Entries) (l : Tag) (n : ℕ) → IsValid E → lacks_mask_for E l ≡ false → IsValid (fin.insert E l n)
valid_with E l n h lacks = valid_put E l n h (λ named. grind (arith, lacks, named))

-- if memory runs out, the fault is one that a valid set may have
pub memory_refused : (E : Entries) (r : Result (Unit {0}) AclFault) → IsErr r × IsErrAnd r (λ fault. fault ≡ Memory)
    → IsValid E → IfErr r (IsFaultOfSet E)
memory_refused E (Ok x) h valid = tt
memory_refused E (Err fault) h valid = subst (IsFaultOfSet E) (sym h.1) valid

-- whether a tag has an entry does not depend on an entry that is taken out for another tag
get-remove_other : (E : Entries) (l q : Tag) → eq_by_cmp tag_cmp q l ≡ false
    → is_some (fin.get (fin.remove E l) q) ≡ is_some (fin.get E q)
get-remove_other E l q differ = rw (fin.get-remove tags_total E l q, differ) refl

-- a tag has no entry after its entry is taken out
get-remove_same : (E : Entries) (l : Tag) → is_some (fin.get (fin.remove E l) l) ≡ false
get-remove_same E l = rw (fin.get-remove tags_total E l l, eq_by_cmp-refl l) refl

-- a set has a USER or GROUP entry if it has one after an entry is taken out
named_before : (E : Entries) (l : Tag) → list_any is_named (fin.keys (fin.remove E l)) ≡ true
    → list_any is_named (fin.keys E) ≡ true
named_before E l = named_in (fin.remove E l) E
    (λ t named some. (let was = fin.get-remove tags_total E l t in grind arith))

-- without an entry that it needs, a valid set lacks that entry
pub missing-remove : (E : Entries) (l : Tag) → IsValid E → is_required E l ≡ true → missing (fin.remove E l) ≡ Some l
unfolding missing
missing-remove E user_obj h needed = rw (get-remove_same E user_obj) refl
missing-remove E group_obj h needed =
    rw (get-remove_other E group_obj user_obj refl ∙ (complete_from_valid E h).owner, get-remove_same E group_obj) refl
missing-remove E other h needed = rw (
  get-remove_other E other user_obj refl ∙ (complete_from_valid E h).owner,
  get-remove_other E other group_obj refl ∙ (complete_from_valid E h).class,
  get-remove_same E other,
) refl
missing-remove E mask h needed =
    let has = complete_from_valid E h in
    lacks_mask (fin.remove E mask) (get-remove_other E mask user_obj refl ∙ has.owner)
    (get-remove_other E mask group_obj refl ∙ has.class) (get-remove_other E mask other refl ∙ has.others)
    (named_in E (fin.remove E mask) (λ t named some.
    get-remove_other E mask t ((eq_by_cmp_equiv tags_total).symm t mask ∙ unnamed_is_not_named mask t refl named)
    ∙ some) needed) (get-remove_same E mask)
missing-remove E tag h needed = absurd cc

-- without an entry that is none of the three, a set is valid if it has a MASK where it needs one
valid_left : (E : Entries) (l : Tag) → IsValid E → eq_by_cmp tag_cmp user_obj l ≡ false
    → eq_by_cmp tag_cmp group_obj l ≡ false → eq_by_cmp tag_cmp other l ≡ false
    → (list_any is_named (fin.keys E) ≡ true → IsSome (fin.get (fin.remove E l) mask)) → IsValid (fin.remove E l)
valid_left E l h no_owner no_class no_other limited =
    let has = complete_from_valid E h in
    valid_from_complete (fin.remove E l) (record {
      owner = get-remove_other E l user_obj no_owner ∙ has.owner;
      class = get-remove_other E l group_obj no_class ∙ has.class;
      others = get-remove_other E l other no_other ∙ has.others;
      limited = λ any. limited (named_before E l any);
    })

-- without an entry that it does not need, a valid set is valid
pub valid_without : (E : Entries) (l : Tag) → IsValid E → is_required E l ≡ false → IsValid (fin.remove E l)
valid_without E (user id) h spare =
    valid_left E (user id) h refl refl refl (λ any. get-remove_other E (user id) mask refl
    ∙ (complete_from_valid E h).limited any)
valid_without E (group id) h spare =
    valid_left E (group id) h refl refl refl (λ any. get-remove_other E (group id) mask refl
    ∙ (complete_from_valid E h).limited any)
valid_without E mask h spare = valid_left E mask h refl refl refl (λ any. let wrong = sym spare ∙ any in absurd cc)
valid_without E tag h spare = absurd cc
