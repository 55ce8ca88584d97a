-- What removals grant, and which of them is the greatest that grants no more of single permissions than a bound.
use Rattle.std.proofs.Common.{◌≡◌, ℕ, ◌*◌, ◌<◌, ◌^◌, Bool, true, eqb, List, Option, None, Some, refl, sym, ap, subst, ◌∙◌, arith}
use Rattle.std.proofs.lemmas.Bool.{false≢true}
use Rattle.std.proofs.lemmas.Nat.{pow_pos}
use Rattle.std.proofs.lemmas.Nat.Bits.{and_pow, bit_at-lt}
use Rattle.std.specs.Prelude.{◌↔◌, ◌&&◌, ◌||◌, ◌==◌, if◌then◌else◌, is_some, not, unwrap_or}
use Rattle.std.specs.Int.{bit_at}
use Rattle.std.specs.FinMap as fin
use Rattle.std.specs.Ordering.{is_eq}
use Rattle.acl_perm.proofs.Bools.{and_true, same_answers}
use Rattle.acl_perm.proofs.Sets.{no_bit, same_set, subset_test}
use Rattle.acl_perm.specs.Bits.{has_bit, IsSubset}
use Rattle.acl_posix.specs.Check.{Object, Requester, any_matches, contains, entry_contains, is_contained, is_member}
use Rattle.acl_posix.specs.Entries.{Entries}
use Rattle.acl_posix.specs.Excess.{GrantsNothingMore}
use Rattle.acl_posix.specs.Tag.{Tag, user_obj, user, group_obj, group, mask, other, is_masked}
use Rattle.acl_posix.specs.internal.GroupSearch.{group_contains}
use Rattle.acl_posix.specs.internal.TagCode.{tags_total}
use Rattle.acl_posix.proofs.Exports.{same_tag}
use Rattle.acl_posix_contain.specs.Removal.{GrantsNothingMoreSingly, IsGreatestPosixRemoval, IsPosixRemoval}
use Rattle.acl_posix_contain.specs.internal.Limits.{holds, is_stranger, IsPosixRestricted, is_looked_at, passes}
use Rattle.acl_posix_contain.proofs.Looking.{any_same, Complete, contains_nothing, granted, looked, matched}

-- ---- one permission

-- a binary digit times a positive number is that number if and only if the digit is 1
by_digit : (d p : ℕ) → d < 2 → 0 < p → eqb (d * p) p ≡ eqb d 1
by_digit d p lt pos = grind arith

-- permissions contain one permission if and only if they have its bit
pub contains_bit : (n k : ℕ) → contains n (2 ^ k) ≡ has_bit n k
contains_bit n k =
    ap (λ (m : ℕ). eqb m (2 ^ k)) (and_pow n k) ∙ by_digit (bit_at n k) (2 ^ k) (bit_at-lt n k) (pow_pos k)

-- the same for the permissions of an entry, which may be absent
pub contained_bit : (o : Option ℕ) (k : ℕ) → is_contained o (2 ^ k) ≡ has_bit (unwrap_or o 0) k
contained_bit None k = sym (no_bit k)
contained_bit (Some n) k = contains_bit n k

-- ---- what a removal leaves

-- where permissions are taken out, nothing more is contained
contained_more : (a b : Option ℕ) (request : ℕ) → is_some a ≡ is_some b → IsSubset (unwrap_or a 0) (unwrap_or b 0)
    → is_contained a request ≡ true → is_contained b request ≡ true
contained_more None b request same within h = absurd (false≢true h)
contained_more (Some p) None request same within h = absurd (false≢true (sym same))
contained_more (Some p) (Some n) request same within h =
    (subset_test n request).1 (λ k has. within k ((subset_test p request).0 h k has))

-- the same entries match
same_matches : (E C : Entries) (og : ℕ) (gs : List ℕ) → IsPosixRemoval E C → any_matches C og gs ≡ any_matches E og gs
same_matches E C og gs r =
    matched C og gs ∙ any_same (group_contains C og 0) (group_contains E og 0) gs one ∙ sym (matched E og gs)
  where
    nothing : (t : Tag) → entry_contains C t 0 ≡ entry_contains E t 0
    nothing t = contains_nothing (fin.get C t) ∙ r.tags t ∙ sym (contains_nothing (fin.get E t))

    one : (n : ℕ) → group_contains C og 0 n ≡ group_contains E og 0 n
    one n = ap (λ (b : Bool). ((n == og) && b) || entry_contains C (group n) 0) (nothing group_obj)
        ∙ ap (λ (b : Bool). ((n == og) && entry_contains E group_obj 0) || b) (nothing (group n))

-- the same requesters are in the class
same_class : (E C : Entries) (o : Object) (q : Requester) → IsPosixRemoval E C → is_stranger C o q ≡ is_stranger E o q
same_class E C o q r = ap (λ (b : Bool). not (q.user == o.user) && not b) (r.tags (user q.user))

-- the check looks at the same entries
pub same_looks : (E C : Entries) (o : Object) (q : Requester) (t : Tag) → IsPosixRemoval E C
    → is_looked_at C o q t ≡ is_looked_at E o q t
same_looks E C o q user_obj r = refl
same_looks E C o q (user id) r = refl
same_looks E C o q group_obj r = ap (λ (b : Bool). b && is_member o.group q.groups) (same_class E C o q r)
same_looks E C o q (group id) r = ap (λ (b : Bool). b && is_member id q.groups) (same_class E C o q r)
same_looks E C o q mask r = refl
same_looks E C o q other r =
    ap (λ (b : Bool). b && not (any_matches C o.group q.groups)) (same_class E C o q r)
    ∙ ap (λ (b : Bool). is_stranger E o q && not b) (same_matches E C o.group q.groups r)

-- MASK lets the same through
pub same_passes : (E C : Entries) (t : Tag) (request : ℕ) → IsPosixRemoval E C → passes C t request ≡ passes E t request
same_passes E C t request r =
    ap (λ (o : Option ℕ). if is_masked t then (if is_some o then is_contained o request else true) else true) r.mask

-- an entry grants nothing more
removal_holds : (E C : Entries) (t : Tag) (request : ℕ) → IsPosixRemoval E C → holds C t request ≡ true
    → holds E t request ≡ true
removal_holds E C t request r h =
    let two = and_true (entry_contains C t request) (passes C t request) h in
    rw (
      contained_more (fin.get C t) (fin.get E t) request (r.tags t) (r.within t) two.0,
      sym (same_passes E C t request r) ∙ two.1,
    ) refl

-- a removal has what the set must have
pub complete_removal : (E C : Entries) → Complete E → IsPosixRemoval E C → Complete C
complete_removal E C c r = record {
  group = r.tags group_obj ∙ c.group;
  masked = λ t named there. r.tags mask ∙ c.masked t named (sym (r.tags t) ∙ there);
}

-- a removal grants nothing more than the set
pub removal_at_most : (E C : Entries) → Complete E → IsPosixRemoval E C → GrantsNothingMore C E
removal_at_most E C c r request _ o q parties g =
    let l = looked C o q request (complete_removal E C c r) g in
    granted E o q request l.tag c (sym (same_looks E C o q l.tag r) ∙ l.looks)
    (removal_holds E C l.tag request r l.grants)

-- ---- the greatest removal

-- the removal whose permissions stay by the rule grants no more of single permissions than the bound
restricted_at_most : (E B C : Entries) → Complete E → IsPosixRestricted E B C → GrantsNothingMoreSingly C B
restricted_at_most E B C c r bit lt o q parties g =
    let l = looked C o q (2 ^ bit) (complete_removal E C c r.removal) g in
    let two = and_true (entry_contains C l.tag (2 ^ bit)) (passes C l.tag (2 ^ bit)) l.grants in
    r.stays l.tag bit lt (sym (contained_bit (fin.get C l.tag) bit) ∙ two.0)
    (sym (same_passes E C l.tag (2 ^ bit) r.removal) ∙ two.1) o q parties
    (sym (same_looks E C o q l.tag r.removal) ∙ l.looks)

-- it is the greatest such removal
pub restricted_is_greatest : (E B C : Entries) → Complete E → IsPosixRestricted E B C → IsGreatestPosixRemoval E B C
restricted_is_greatest E B C c r = record {
  removal = r.removal;
  at_most_bound = restricted_at_most E B C c r;
  greatest = λ D d most. record {
    tags = λ t. d.tags t ∙ sym (r.removal.tags t);
    within = λ t k h. r.kept t k (d.within t k h) (λ lt pass o q parties looks.
        most k lt o q parties (granted D o q (2 ^ k) t (complete_removal E D c d) (same_looks E D o q t d ∙ looks)
        (rw (contained_bit (fin.get D t) k ∙ h, same_passes E D t (2 ^ k) d ∙ pass) refl)));
    mask = d.mask ∙ sym r.removal.mask;
  };
}

-- permissions are equal if each part of the other
same_permissions : (a b : Option ℕ) → is_some a ≡ is_some b → IsSubset (unwrap_or a 0) (unwrap_or b 0)
    → IsSubset (unwrap_or b 0) (unwrap_or a 0) → a ≡ b
same_permissions None None same p q = refl
same_permissions None (Some n) same p q = absurd (false≢true same)
same_permissions (Some m) None same p q = absurd (false≢true (sym same))
same_permissions (Some m) (Some n) same p q =
    ap (λ (x : ℕ). Some x) (same_set m n (λ k. same_answers (has_bit m k) (has_bit n k) (p k) (q k)))

-- two sets that are removals of each other are equal
same_removals : (E C : Entries) → IsPosixRemoval E C → IsPosixRemoval C E → C ≡ E
same_removals E C r s = fin.same_map tags_total (λ x y e. same_tag x y (ap is_eq e)) C E
    (λ t. same_permissions (fin.get C t) (fin.get E t) (r.tags t) (r.within t) (s.within t))

-- the greatest removal is the set itself if and only if the set grants no more of single permissions than the bound
pub greatest_unchanged : (E B C : Entries) → IsGreatestPosixRemoval E B C → (C ≡ E) ↔ GrantsNothingMoreSingly E B
greatest_unchanged E B C g = (
  λ same. subst (λ D. GrantsNothingMoreSingly D B) same g.at_most_bound,
  λ most. same_removals E C g.removal
      (g.greatest E (record { tags = λ _. refl; within = λ _ _ h. h; mask = refl }) most),
)
