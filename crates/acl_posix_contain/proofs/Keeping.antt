-- What an entry keeps, and how an ACL keeps it entry by entry.
use Rattle.std.proofs.Common.{◌≡◌, ℕ, ◌+◌, ◌<◌, ◌≤◌, ◌^◌, Bool, true, false, Option, None, Some, cond, refl, sym, ap, subst, ◌∙◌, arith, get_or, inl, inr, length}
use Rattle.std.proofs.lemmas.Bool.{cases_eq, cases_lt, false≢true}
use Rattle.std.proofs.lemmas.Nat.Bits.{bit_at_above}
use Rattle.std.proofs.lemmas.List.{get_or_default}
use Rattle.std.specs.Ordering.{eq_by_cmp}
use Rattle.std.specs.Prelude.{◌⊎◌, ◌==◌, ◌&&◌, is_none, is_some, not, unwrap_or}
use Rattle.std.specs.FinMap as fin
use Rattle.acl_perm.proofs.Bools.{and_true, same_answers}
use Rattle.acl_perm.proofs.Sets.{no_bit, same_set}
use Rattle.acl_perm.specs.Bits.{has_bit, IsDifference, IsPerm}
use Rattle.acl_posix.specs.Entries.{Entries}
use Rattle.acl_posix.specs.Mask.{effective_of}
use Rattle.acl_posix.specs.Tag.{Tag, IsTag, mask, tag_cmp}
use Rattle.acl_posix.specs.declared.id.Id.{Id}
use Rattle.acl_posix.specs.internal.TagCode.{tags_total}
use Rattle.acl_posix.proofs.Exports.{eq_by_cmp-refl, same_tag}
use Rattle.acl_posix_contain.specs.Removal.{permissions}
use Rattle.acl_posix_contain.specs.internal.Limits.{ArePassing, gets, HasKeptEntry, HaveKeptEntries, IsFrom, IsKept, IsPosixRestricted, passes, EntryStays}
use Rattle.acl_posix_contain.proofs.Entries.{from_first}
use Rattle.acl_posix_contain.proofs.Bits.{effective_bit}
use Rattle.acl_posix_contain.proofs.Removals.{contains_bit}
use Rattle.acl_posix_contain.proofs.Staying.{AreSides, stays_if, stays_only}

-- a permission is one of three bits
below : (n k : ℕ) → IsPerm n → has_bit n k ≡ true → k < 3
below n k small h = elim (cases_lt k 3) [
  | inl lt ↦ lt
  | inr le ↦ absurd (false≢true (sym (ap (λ (d : ℕ). d == 1) (bit_at_above n 3 k small le)) ∙ h))
]

-- a permission that is granted and was not taken out is within the limit
within_limit : (n e l : Bool) → (n && not (e && not l)) ≡ true → e ≡ true → l ≡ true
within_limit n e true h g = refl
within_limit true true false h g = h
within_limit false e false h g = absurd (false≢true h)
within_limit true false false h g = g

-- an entry keeps what MASK hides and what is within the limit
pub kept_is : (L B : Entries) (u g : Option Id) (t : Tag) (n granted limit excess cut : ℕ) → AreSides L B u g
    → IsTag t → IsPerm n → granted ≡ effective_of L (t, n)
    → ArePassing limit (λ request. gets L B (is_none u) (is_none g) request t) → IsDifference granted limit excess
    → IsDifference n excess cut → IsKept L B t n cut
kept_is L B u g t n granted limit excess cut s is small granted_is limits diff out = record {
  within = within;
  mask = λ same. same_set cut n (λ k. same_answers (has_bit cut k) (has_bit n k) (within k) (λ h. kept k h (λ _ _.
      subst (EntryStays L B (2 ^ k)) (sym same) (λ o q parties looks. absurd (false≢true looks)))));
  stays = λ k lt h pass. stays_if L B u g (2 ^ k) t s (sym (limits k lt) ∙ within_limit (has_bit n k)
      (has_bit granted k) (has_bit limit k) (sym (bits k) ∙ h) (granting k (within k h) pass));
  kept = kept;
}
  where
    bits : (k : ℕ) → has_bit cut k ≡ (has_bit n k && not (has_bit granted k && not (has_bit limit k)))
    bits k = out k ∙ ap (λ (b : Bool). has_bit n k && not b) (diff k)

    granted_bit : (k : ℕ) → has_bit granted k ≡ (has_bit n k && passes L t (2 ^ k))
    granted_bit k = ap (λ (m : ℕ). has_bit m k) granted_is ∙ effective_bit L t n k
        ∙ ap (λ (b : Bool). b && passes L t (2 ^ k)) (contains_bit n k)

    granting : (k : ℕ) → has_bit n k ≡ true → passes L t (2 ^ k) ≡ true → has_bit granted k ≡ true
    granting k h pass = granted_bit k ∙ rw (h, pass) refl

    within : (k : ℕ) → has_bit cut k ≡ true → has_bit n k ≡ true
    within k h = (and_true (has_bit n k) (not (has_bit granted k && not (has_bit limit k))) (sym (bits k) ∙ h)).0

    kept : (k : ℕ) → has_bit n k ≡ true → (k < 3 → passes L t (2 ^ k) ≡ true → EntryStays L B (2 ^ k) t)
        → has_bit cut k ≡ true
    kept k h may =
        let lt = below n k small h in
        bits k ∙ by (passes L t (2 ^ k)) refl (granted_bit k)
      where
        by : (b : Bool) → passes L t (2 ^ k) ≡ b → has_bit granted k ≡ (has_bit n k && passes L t (2 ^ k))
            → (has_bit n k && not (has_bit granted k && not (has_bit limit k))) ≡ true
        by true e at =
            let within : has_bit limit k ≡ true =
            limits k (below n k small h) ∙ stays_only L B u g (2 ^ k) t s is (may (below n k small h) e) in
            rw (h, within) (last (has_bit granted k))
          where
            last : (b : Bool) → not (b && false) ≡ true
            last true = refl
            last false = refl
        by false e at = rw (at, h, e) refl

-- ---- entry by entry

-- at first each entry is as it was
pub first_kept : (E B : Entries) → HaveKeptEntries E B 0 E
first_kept E B = record {
  tags = λ _. refl;
  each = λ t n is. inr (is, from_first E t (ap (λ (o : Option ℕ). is_some o) is));
}

-- a place other than that of the entry is after it
passed : (E : Entries) (place : ℕ) (tag t : Tag) → get_or (fin.keys E) place tag ≡ tag
    → eq_by_cmp tag_cmp t tag ≡ false → IsFrom E place t → IsFrom E (place + 1) t
passed E place tag t at differ (i, le, lt, is) = elim (cases_eq i place) [
  | inl same ↦ absurd (false≢true (sym differ ∙ (ap (λ (x : Tag). eq_by_cmp tag_cmp t x)
      (sym at ∙ get_or_default (fin.keys E) place tag t (subst (λ (j : ℕ). j < length (fin.keys E)) same lt)
      ∙ ap (λ (j : ℕ). get_or (fin.keys E) j t) (sym same) ∙ is) ∙ eq_by_cmp-refl t)))
  | inr other ↦ (i, omega (arith, le, other), lt, is)
]

-- an entry more has kept what stays
pub next_kept : (E B C : Entries) (place : ℕ) (tag : Tag) (n cut : ℕ) → fin.get E tag ≡ Some n
    → get_or (fin.keys E) place tag ≡ tag → IsKept E B tag n cut → HaveKeptEntries E B place C
    → HaveKeptEntries E B (place + 1) (fin.insert C tag cut)
next_kept E B C place tag n cut there at kept h = record {
  tags = λ t. ap (λ (o : Option ℕ). is_some o) (fin.get-insert tags_total C tag cut t)
      ∙ tags t (eq_by_cmp tag_cmp t tag) refl;
  each = λ t m is. each t m is (eq_by_cmp tag_cmp t tag) refl;
}
  where
    tags : (t : Tag) (b : Bool) → eq_by_cmp tag_cmp t tag ≡ b
        → is_some (cond b (Some cut) (fin.get C t)) ≡ fin.contains_key E t
    tags t true e = sym (ap (λ (u : Tag). fin.contains_key E u) (same_tag t tag e)
        ∙ ap (λ (o : Option ℕ). is_some o) there)
    tags t false e = h.tags t

    now : (t : Tag) (b : Bool) → eq_by_cmp tag_cmp t tag ≡ b
        → fin.get (fin.insert C tag cut) t ≡ cond b (Some cut) (fin.get C t)
    now t b e = fin.get-insert tags_total C tag cut t ∙ ap (λ (c : Bool). cond c (Some cut) (fin.get C t)) e

    each : (t : Tag) (m : ℕ) → fin.get E t ≡ Some m → (b : Bool) → eq_by_cmp tag_cmp t tag ≡ b
        → HasKeptEntry E B t m (fin.get (fin.insert C tag cut) t)
        ⊎ ((fin.get (fin.insert C tag cut) t ≡ Some m) × IsFrom E (place + 1) t)
    each t m is true e =
        let same = same_tag t tag e in
        let number : m ≡ n = ap (λ (o : Option ℕ). unwrap_or o 0)
        (sym is ∙ ap (λ (u : Tag). fin.get E u) same ∙ there) in
        inl (subst (λ (o : Option ℕ). HasKeptEntry E B t m o) (sym (now t true e)) (
          subst (λ (u : Tag). IsKept E B u m cut) (sym same) (subst (λ (k : ℕ). IsKept E B tag k cut) (sym number) kept),
          refl,
        ))
    each t m is false e = elim (h.each t m is) [
      | inl done ↦ inl (subst (λ (o : Option ℕ). HasKeptEntry E B t m o) (sym (now t false e)) done)
      | inr left ↦ inr (now t false e ∙ left.0, passed E place tag t at e left.1)
    ]

-- permissions of an entry that may be absent are equal if their sets are
same_entry : (a b : Option ℕ) → is_some a ≡ is_some b → unwrap_or a 0 ≡ unwrap_or b 0 → a ≡ b
same_entry None None same e = refl
same_entry None (Some n) same e = absurd (false≢true same)
same_entry (Some m) None same e = absurd (false≢true (sym same))
same_entry (Some m) (Some n) same e = ap (λ (x : ℕ). Some x) e

-- at last all entries have
pub all_kept : (E B C : Entries) (place : ℕ) → length (fin.keys E) ≤ place → HaveKeptEntries E B place C
    → IsPosixRestricted E B C
all_kept E B C place end h = record {
  removal = record {
    tags = h.tags;
    within = λ t. (facts t).within;
    mask = same_entry (fin.get C mask) (fin.get E mask) (h.tags mask) ((facts mask).mask refl);
  };
  stays = λ t. (facts t).stays;
  kept = λ t. (facts t).kept;
}
  where
    of : (t : Tag) (n : ℕ) (o : Option ℕ) → HasKeptEntry E B t n o → IsKept E B t n (unwrap_or o 0)
    of t n None k = absurd (false≢true k.1)
    of t n (Some m) k = k.0

    by : (t : Tag) (o : Option ℕ) → fin.get E t ≡ o → is_some (fin.get C t) ≡ is_some o
        → IsKept E B t (unwrap_or o 0) (unwrap_or (fin.get C t) 0)
    by t (Some n) e same = elim (h.each t n e) [
      | inl done ↦ of t n (fin.get C t) done
      | inr left ↦ absurd (omega (arith, left.1.1, left.1.2, end))
    ]
    by t None e same = none (fin.get C t) same
      where
        none : (o : Option ℕ) → is_some o ≡ false → IsKept E B t 0 (unwrap_or o 0)
        none (Some m) s = absurd (false≢true (sym s))
        none None s = record {
          within = λ _ k. k;
          mask = λ _. refl;
          stays = λ bit _ k. absurd (false≢true (sym (no_bit bit) ∙ k));
          kept = λ bit k. absurd (false≢true (sym (no_bit bit) ∙ k));
        }

    facts : (t : Tag) → IsKept E B t (permissions E t) (permissions C t)
    facts t = by t (fin.get E t) refl (h.tags t)
