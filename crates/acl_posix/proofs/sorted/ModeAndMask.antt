-- The union of the permissions that the mask limits, entry by entry, and laws of the mode and the mask.
use Rattle.acl_posix.proofs.Common.{[], ap, arith, bit_and, bit_or, Bool, by_order, chmoded, class_union, cond, cond_both, drop, drop_all, drop_more, effective_of, Entries, Entry, eq_by_cmp, Equal, false, filter, fold, get_or, Greater, group_obj, is_masked, is_some, length, Less, List, mask, mode_of, other, pair_of, pairs, refl, Some, sym, Tag, tag_cmp, tags_total, true, unwrap_or, user_obj, with_mask, ℕ, ◌%◌, ◌*◌, ◌+◌, ◌/◌, ◌<◌, ◌||◌, ◌∙◌, ◌∷◌, ◌≡◌, ◌≤◌}
use Rattle.std.proofs.lemmas.Nat.{and_comm, and_or_self}
use Rattle.acl_perm.proofs.Sets.{has_bit-or, subset}
use Rattle.acl_perm.specs.Bits.{has_bit}
use Rattle.acl_posix.proofs.tag.Tags.{exact_tags, same_tag}
use Rattle.std.specs.FinMap as fin

-- what a union is after one more entry
abbrev pub joined : ℕ → Tag × ℕ → ℕ
joined union entry = cond (is_masked entry.0) (bit_or union entry.1) union

-- the union of the entries of the list that the mask limits, and of some permissions
abbrev pub union_from : ℕ → List (Tag × ℕ) → ℕ
union_from union ps = fold (λ (u : ℕ) (p : Tag × ℕ). bit_or u p.1) union (filter (λ (p : Tag × ℕ). is_masked p.0) ps)

-- the first entry is united first, and then the others
pub union_step : (u : ℕ) (p : Tag × ℕ) (ps : List (Tag × ℕ)) → union_from u (p ∷ ps) ≡ union_from (joined u p) ps
union_step u p ps =
    let rest : List (Tag × ℕ) = filter (λ (q : Tag × ℕ). is_masked q.0) ps in
    elim (is_masked p.0) as (λ b. fold (λ (v : ℕ) (q : Tag × ℕ). bit_or v q.1) u (cond b (p ∷ rest) rest)
    ≡ union_from (cond b (bit_or u p.1) u) ps) [ true ↦ refl | false ↦ refl ]

-- one more entry leaves the union of all as it is
pub union_more : (u v total : ℕ) (es : List Entry) (i : ℕ) (e : Entry) → i < length es → e ≡ get_or es i e
    → v ≡ joined u (pair_of e) → union_from u (pairs (drop i es)) ≡ total
    → union_from v (pairs (drop (i + 1) es)) ≡ total
union_more u v total es i e lt read is so_far =
    let rest : List (Tag × ℕ) = pairs (drop (i + 1) es) in
    let next : union_from u (pairs (drop i es)) ≡ union_from (joined u (pair_of (get_or es i e))) rest =
    ap (λ (x : List Entry). union_from u (pairs x)) (drop_more es i e lt)
    ∙ union_step u (pair_of (get_or es i e)) rest in
    ap (λ (n : ℕ). union_from n rest) (is ∙ ap (λ (x : Entry). joined u (pair_of x)) read) ∙ sym next ∙ so_far

-- if no entry is left, the union so far is the union of all
pub union_done : (u : ℕ) (es : List Entry) (i : ℕ) → length es ≤ i → union_from u (pairs (drop i es)) ≡ u
union_done u es i le = ap (λ (x : List Entry). union_from u (pairs x)) (drop_all i es le)

-- ---- the mode after a change is the mode that was set

-- the mode of a set after the three entries of its mode are set is made of what was set
mode_three : (E : Entries) (owner class others : ℕ) (b : Bool) → is_some (fin.get E mask) ≡ b
    → mode_of (fin.insert (fin.insert (fin.insert E user_obj owner) (cond b mask group_obj) class) other others)
    ≡ 64 * owner + 8 * class + others
mode_three E owner class others true has = simp (fin.get-insert {X = ℕ} tags_total) refl
mode_three E owner class others false has = simp (fin.get-insert {X = ℕ} tags_total, has) refl

-- the mode after it is changed is the mode that was set
pub mode_set : (E : Entries) (mode : ℕ) → mode_of (chmoded E mode) ≡ mode
mode_set E mode = mode_three E (mode / 64) (mode / 8 % 8) (mode % 8) (is_some (fin.get E mask)) refl ∙ omega arith

-- ---- the calculated mask leaves each entry its own permissions

-- permissions that are in a union are in that union with more permissions
within_or : (p u n : ℕ) → bit_and p u ≡ p → bit_and p (bit_or u n) ≡ p
within_or p u n h = and_comm p (bit_or u n) ∙ (subset (bit_or u n) p).1 (λ k t. has_bit-or u n k
    ∙ ap (λ b. b || has_bit n k) ((subset u p).0 (and_comm u p ∙ h) k t))

-- permissions that are in a union are still in it after more entries are united with it
within_fold : (p u : ℕ) (ps : List (Tag × ℕ)) → bit_and p u ≡ p → bit_and p (union_from u ps) ≡ p
within_fold p u [] h = h
within_fold p u (q ∷ ps) h = ap (bit_and p) (union_step u q ps)
    ∙ within_fold p (joined u q) ps (cond_both (is_masked q.0) (bit_or u q.1) u (λ v. bit_and p v ≡ p)
    (λ is. within_or p u q.1 h) (λ is. h))

-- the permissions of an entry of a list that the mask limits are in the union of the list
found_within : (ps : List (Tag × ℕ)) (u : ℕ) (l : Tag) (p : ℕ) → is_masked l ≡ true → fin.find tag_cmp l ps ≡ Some p
    → bit_and p (union_from u ps) ≡ p
found_within [] u l p m h = absurd cc
found_within (q ∷ ps) u l p m h = ap (bit_and p) (union_step u q ps)
    ∙ cond_both (eq_by_cmp tag_cmp l q.0) (Some q.1) (fin.find tag_cmp l ps)
    (λ found. found ≡ Some p → bit_and p (union_from (joined u q) ps) ≡ p)
    (λ same is. within_fold p (joined u q) ps (ap (λ b. bit_and p (cond b (bit_or u q.1) u))
    (ap is_masked (sym (same_tag l q.0 same)) ∙ m) ∙ ap (λ n. bit_and p (bit_or u n)) (ap (λ o. unwrap_or o 0) is)
    ∙ and_comm p (bit_or u p) ∙ and_or_self p u)) (λ differ is. found_within ps (joined u q) l p m is) h

-- a tag that the mask limits is not MASK
masked_is_no_mask : (l : Tag) → is_masked l ≡ true → eq_by_cmp tag_cmp l mask ≡ false
masked_is_no_mask l m = grind arith

-- after the mask is calculated each entry grants all of its own permissions
pub effective_own : (E : Entries) (entry : Tag × ℕ) → fin.get (with_mask E) entry.0 ≡ Some entry.1
    → effective_of (with_mask E) entry ≡ entry.1
effective_own E entry h =
    let u : ℕ = class_union (fin.entries E) in
    let there : fin.get (with_mask E) mask ≡ Some u = fin.get-insert tags_total E mask u mask in
    cond_both (is_masked entry.0) (bit_and entry.1 (unwrap_or (fin.get (with_mask E) mask) entry.1)) entry.1
    (λ n. n ≡ entry.1)
    (λ m. (let own : fin.get E entry.0 ≡ Some entry.1 = ap (λ b. cond b (Some u) (fin.get E entry.0))
    (sym (masked_is_no_mask entry.0 m)) ∙ sym (fin.get-insert tags_total E mask u entry.0) ∙ h in
    ap (λ o. bit_and entry.1 (unwrap_or o entry.1)) there ∙ found_within (fin.entries E) 0 entry.0 entry.1 m
    (sym (fin.get-entries E entry.0) ∙ own)))
    (λ m. refl)

-- ---- the mask calculated twice is calculated once

-- a MASK that is put into a list does not change the union of the list
put_mask : (u n : ℕ) (ps : List (Tag × ℕ)) → union_from u (fin.put tag_cmp mask n ps) ≡ union_from u ps
put_mask u n [] = refl
put_mask u n (p ∷ ps) = elim (tag_cmp mask p.0) as (λ o. tag_cmp mask p.0 ≡ o
    → union_from u (by_order o ((mask, n) ∷ p ∷ ps) ((p.0, n) ∷ ps) (p ∷ fin.put tag_cmp mask n ps))
    ≡ union_from u (p ∷ ps)) [
      | Less ↦ λ is. refl
      | Equal ↦ λ is.
          let no : is_masked p.0 ≡ false = ap is_masked (sym (exact_tags mask p.0 is)) in
          union_step u (p.0, n) ps ∙ ap (λ b. union_from (cond b (bit_or u n) u) ps) no
          ∙ sym (union_step u p ps ∙ ap (λ b. union_from (cond b (bit_or u p.1) u) ps) no)
      | Greater ↦ λ is. union_step u p (fin.put tag_cmp mask n ps) ∙ put_mask (joined u p) n ps
          ∙ sym (union_step u p ps)
    ] refl

-- a set after MASK is set twice to the same permissions is the set after MASK is set once
insert-insert_same : (E : Entries) (n : ℕ) → fin.insert (fin.insert E mask n) mask n ≡ fin.insert E mask n
insert-insert_same E n = fin.same_map tags_total exact_tags _ _ (λ q.
    (let outer = fin.get-insert tags_total (fin.insert E mask n) mask n q in
    let inner = fin.get-insert tags_total E mask n q in
    grind arith))

-- the mask calculated twice is calculated once
pub mask_again : (E : Entries) → with_mask (with_mask E) ≡ with_mask E
mask_again E =
    let u : ℕ = class_union (fin.entries E) in
    let same : class_union (fin.entries (with_mask E)) ≡ u = ap (λ (ps : List (Tag × ℕ)). class_union ps)
    (fin.entries-insert tags_total E mask u) ∙ put_mask 0 u (fin.entries E) in
    ap (fin.insert (with_mask E) mask) same ∙ insert-insert_same E u
