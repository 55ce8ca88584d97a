-- What the pass finds possible at its end says what holds in every assignment of the unknown identifiers.
use Rattle.std.proofs.Common.{◌≡◌, ℕ, ◌+◌, ◌<◌, ◌≤◌, length, get_or, drop, Bool, true, false, List, [], ◌∷◌, Option, None, Some, refl, sym, ap, subst, ◌∙◌}
use Rattle.std.specs.Prelude.{◌&&◌, ◌||◌, ◌↔◌, IsTrue, map, not}
use Rattle.std.proofs.lemmas.Bool.{true≢false}
use Rattle.acl_perm.specs.Bits.{has_bit}
use Rattle.acl_perm.proofs.Sets.{no_bit}
use Rattle.acl_perm.specs.Situation.{Situation}
use Rattle.acl_perm.specs.declared.kind.Kind.{Kind}
use Rattle.acl_perm.specs.declared.kind.Kind.TheVariants.{Deny, Allow}
use Rattle.acl_nfs4.specs.Ace.{Ace}
use Rattle.acl_nfs4.specs.Ace.{ace}
use Rattle.acl_nfs4.specs.declared.ace.AceRef.{AceRef}
use Rattle.acl_decide.specs.Unknown.{AlwaysAnswers, Assignment, MayAnswer, MayNotGrant, NeverGrants, answer_under}
use Rattle.acl_decide.specs.internal.UnknownBody.{may_answer, noting}
use Rattle.acl_decide.specs.declared.rights_with_unknown.Possible.{Possible}
use Rattle.std.proofs.lemmas.List.{at_drop_more, drop_all}
unfoldable use Rattle.acl_decide.specs.internal.UnknownBody.{can_answer}
use Rattle.acl_decide.proofs.Unknowns.{can_complete, can_sound}

-- an answer that some assignment gives is possible
can_if : (list : List Ace) (s : Situation) (bit : ℕ) (k : Option Kind) (v : Assignment)
    → answer_under v list s bit ≡ k → can_answer [] list s bit k ≡ true
can_if list s bit k v e = subst (λ (x : Option Kind). can_answer [] list s bit x ≡ true) e
    (can_complete list [] s bit v (λ who h. absurd (true≢false (sym h))))

-- an answer that is not possible is given by no assignment
never_if : (list : List Ace) (s : Situation) (bit : ℕ) (k : Option Kind) → can_answer [] list s bit k ≡ false
    → (v : Assignment) → answer_under v list s bit ≡ k → ⊥
never_if list s bit k lacks v e = true≢false (sym (can_if list s bit k v e) ∙ lacks)

-- what is possible for the rights of a mask
pub record Found (mask allow deny left : Bool) (list : List Ace) (s : Situation) (bit : ℕ) : Type 0 where
  pub allows : allow ≡ (mask && can_answer [] list s bit (Some Allow))
  pub denies : deny ≡ (mask && can_answer [] list s bit (Some Deny))
  pub leaves : left ≡ (mask && can_answer [] list s bit None)

-- an answer that only the end of the list gives
is_left : (l : Bool) → (false || (l && true)) ≡ l
is_left true = refl
is_left false = refl

-- the pass finds it
pub found : (possible : Possible) (mask : ℕ) (list : List Ace) (s : Situation) (bit : ℕ)
    → ((k : Option Kind) → may_answer possible [] [] s bit k ≡ (has_bit mask bit && can_answer [] list s bit k))
    → Found (has_bit mask bit) (has_bit possible.allow.bits bit) (has_bit possible.deny.bits bit)
    (has_bit possible.left.bits bit) list s bit
unfolding can_answer
found possible mask list s bit is = record {
  allows = sym (none (has_bit possible.allow.bits bit) (has_bit possible.left.bits bit)) ∙ is (Some Allow);
  denies = sym (none (has_bit possible.deny.bits bit) (has_bit possible.left.bits bit)) ∙ is (Some Deny);
  leaves = sym (is_left (has_bit possible.left.bits bit)) ∙ is None;
}
  where
    none : (x l : Bool) → (x || (l && false)) ≡ x
    none true l = refl
    none false true = refl
    none false false = refl

-- no other answer is possible
no_third : (list : List Ace) (s : Situation) (bit : ℕ) (x y z : Option Kind)
    → ((k : Option Kind) → (k ≡ x → ⊥) → (k ≡ y → ⊥) → k ≡ z)
    → can_answer [] list s bit x ≡ false → can_answer [] list s bit y ≡ false → AlwaysAnswers list s bit z
no_third list s bit x y z third no_x no_y v =
    third (answer_under v list s bit) (never_if list s bit x no_x v) (never_if list s bit y no_y v)

-- neither none nor a DENY is an ALLOW
is_allowed : (k : Option Kind) → (k ≡ None → ⊥) → (k ≡ Some Deny → ⊥) → k ≡ Some Allow
is_allowed None n d = absurd (n refl)
is_allowed (Some Deny) n d = absurd (d refl)
is_allowed (Some Allow) n d = refl

-- neither an ALLOW nor a DENY is none
is_none : (k : Option Kind) → (k ≡ Some Allow → ⊥) → (k ≡ Some Deny → ⊥) → k ≡ None
is_none None a d = refl
is_none (Some Deny) a d = absurd (d refl)
is_none (Some Allow) a d = absurd (a refl)

-- no answer is not Allow
pub none_allow : None ≡ Some Allow → ⊥
none_allow e = cc

-- Deny is not Allow
pub deny_allow : Some Deny ≡ Some Allow → ⊥
deny_allow e = cc

-- no answer is not Deny
none_deny : None ≡ Some Deny → ⊥
none_deny e = cc

-- the rights that are allowed
pub allowed_is : (mask allow deny left : Bool) (list : List Ace) (s : Situation) (bit : ℕ)
    → Found mask allow deny left list s bit
    → IsTrue (allow && not (deny || left)) ↔ (IsTrue mask × AlwaysAnswers list s bit (Some Allow))
allowed_is mask allow deny left list s bit f =
    rw (f.allows, f.denies, f.leaves) (by mask (can_answer [] list s bit (Some Allow))
    (can_answer [] list s bit (Some Deny)) (can_answer [] list s bit None) refl refl refl)
  where
    by : (m a d n : Bool) → can_answer [] list s bit (Some Allow) ≡ a → can_answer [] list s bit (Some Deny) ≡ d
        → can_answer [] list s bit None ≡ n
        → IsTrue ((m && a) && not ((m && d) || (m && n))) ↔ (IsTrue m × AlwaysAnswers list s bit (Some Allow))
    by false a d n ae de ne = (λ h. absurd (true≢false (sym h)), λ (h : _). absurd (true≢false (sym h.0)))
    by true false d n ae de ne = (
      λ h. absurd (true≢false (sym h)),
      λ (h : _). absurd (never_if list s bit (Some Allow) ae (λ who. false) (h.1 (λ who. false))),
    )
    by true true true n ae de ne = (
      λ h. absurd (true≢false (sym h)),
      λ (h : _). let (v, p, is) = can_sound list [] s bit (Some Deny) de in absurd (deny_allow (sym is ∙ h.1 v)),
    )
    by true true false true ae de ne = (
      λ h. absurd (true≢false (sym h)),
      λ (h : _). let (v, p, is) = can_sound list [] s bit None ne in absurd (none_allow (sym is ∙ h.1 v)),
    )
    by true true false false ae de ne = (
      λ h. (refl, no_third list s bit None (Some Deny) (Some Allow) is_allowed ne de),
      λ (h : _). refl,
    )

-- the rights that are denied
pub denied_is : (mask allow deny left : Bool) (list : List Ace) (s : Situation) (bit : ℕ)
    → Found mask allow deny left list s bit → IsTrue (deny && not allow)
    ↔ (IsTrue mask × NeverGrants list s bit × MayAnswer list s bit (Some Deny))
denied_is mask allow deny left list s bit f =
    rw (f.allows, f.denies) (by mask (can_answer [] list s bit (Some Allow))
    (can_answer [] list s bit (Some Deny)) refl refl)
  where
    by : (m a d : Bool) → can_answer [] list s bit (Some Allow) ≡ a → can_answer [] list s bit (Some Deny) ≡ d
        → IsTrue ((m && d) && not (m && a))
        ↔ (IsTrue m × NeverGrants list s bit × MayAnswer list s bit (Some Deny))
    by false a d ae de = (λ h. absurd (true≢false (sym h)), λ (h : _). absurd (true≢false (sym h.0)))
    by true a false ae de = (
      λ h. absurd (true≢false (sym h)),
      λ (h : _). absurd (never_if list s bit (Some Deny) de h.2.0 h.2.1),
    )
    by true true true ae de = (
      λ h. absurd (true≢false (sym h)),
      λ (h : _). let (v, p, is) = can_sound list [] s bit (Some Allow) ae in absurd (h.1 v is),
    )
    by true false true ae de = (
      λ h. (
        refl,
        never_if list s bit (Some Allow) ae,
        (let (v, p, is) = can_sound list [] s bit (Some Deny) de in (v, is)),
      ),
      λ (h : _). refl,
    )

-- the rights that are undecided
pub undecided_is : (mask allow deny left : Bool) (list : List Ace) (s : Situation) (bit : ℕ)
    → Found mask allow deny left list s bit
    → IsTrue (left && not (allow || deny)) ↔ (IsTrue mask × AlwaysAnswers list s bit None)
undecided_is mask allow deny left list s bit f =
    rw (f.allows, f.denies, f.leaves) (by mask (can_answer [] list s bit (Some Allow))
    (can_answer [] list s bit (Some Deny)) (can_answer [] list s bit None) refl refl refl)
  where
    by : (m a d n : Bool) → can_answer [] list s bit (Some Allow) ≡ a → can_answer [] list s bit (Some Deny) ≡ d
        → can_answer [] list s bit None ≡ n
        → IsTrue ((m && n) && not ((m && a) || (m && d))) ↔ (IsTrue m × AlwaysAnswers list s bit None)
    by false a d n ae de ne = (λ h. absurd (true≢false (sym h)), λ (h : _). absurd (true≢false (sym h.0)))
    by true a d false ae de ne = (
      λ h. absurd (true≢false (sym h)),
      λ (h : _). absurd (never_if list s bit None ne (λ who. false) (h.1 (λ who. false))),
    )
    by true true d true ae de ne = (
      λ h. absurd (true≢false (sym h)),
      λ (h : _). let (v, p, is) = can_sound list [] s bit (Some Allow) ae in absurd (none_allow (sym (h.1 v) ∙ is)),
    )
    by true false true true ae de ne = (
      λ h. absurd (true≢false (sym h)),
      λ (h : _). let (v, p, is) = can_sound list [] s bit (Some Deny) de in absurd (none_deny (sym (h.1 v) ∙ is)),
    )
    by true false false true ae de ne = (
      λ h. (refl, no_third list s bit (Some Allow) (Some Deny) None is_none ae de),
      λ (h : _). refl,
    )

-- an answer that is possible is given by some assignment
may_if : (list : List Ace) (s : Situation) (bit : ℕ) (k : Option Kind) → can_answer [] list s bit k ≡ true
    → MayAnswer list s bit k
may_if list s bit k e = let (v, p, is) = can_sound list [] s bit k e in (v, is)

-- the rights of which nobody knows whether they are granted
pub unknown_is : (mask allow deny left : Bool) (list : List Ace) (s : Situation) (bit : ℕ)
    → Found mask allow deny left list s bit → IsTrue (allow && (deny || left))
    ↔ (IsTrue mask × MayAnswer list s bit (Some Allow) × MayNotGrant list s bit)
unknown_is mask allow deny left list s bit f =
    rw (f.allows, f.denies, f.leaves) (by mask (can_answer [] list s bit (Some Allow))
    (can_answer [] list s bit (Some Deny)) (can_answer [] list s bit None) refl refl refl)
  where
    by : (m a d n : Bool) → can_answer [] list s bit (Some Allow) ≡ a → can_answer [] list s bit (Some Deny) ≡ d
        → can_answer [] list s bit None ≡ n → IsTrue ((m && a) && ((m && d) || (m && n)))
        ↔ (IsTrue m × MayAnswer list s bit (Some Allow) × MayNotGrant list s bit)
    by false a d n ae de ne = (λ h. absurd (true≢false (sym h)), λ (h : _). absurd (true≢false (sym h.0)))
    by true false d n ae de ne = (
      λ h. absurd (true≢false (sym h)),
      λ (h : _). absurd (never_if list s bit (Some Allow) ae h.1.0 h.1.1),
    )
    by true true true n ae de ne = (
      λ h. (
        refl,
        may_if list s bit (Some Allow) ae,
        (let (v, p, is) = can_sound list [] s bit (Some Deny) de in (v, λ e. deny_allow (sym is ∙ e))),
      ),
      λ (h : _). refl,
    )
    by true true false true ae de ne = (
      λ h. (
        refl,
        may_if list s bit (Some Allow) ae,
        (let (v, p, is) = can_sound list [] s bit None ne in (v, λ e. none_allow (sym is ∙ e))),
      ),
      λ (h : _). refl,
    )
    by true true false false ae de ne = (
      λ h. absurd (true≢false (sym h)),
      λ (h : _). absurd (h.2.1 (no_third list s bit None (Some Deny) (Some Allow) is_allowed ne de h.2.0)),
    )

-- one of the three answers is given
is_none_or : (k : Option Kind) → (k ≡ Some Allow → ⊥) → (k ≡ Some Deny → ⊥) → (k ≡ None → ⊥) → Some Allow ≡ None
is_none_or k a d n = absurd (n (is_none k a d))

-- each right of the mask is in one of the sets
pub whole_is : (mask allow deny left : Bool) (list : List Ace) (s : Situation) (bit : ℕ)
    → Found mask allow deny left list s bit
    → mask ≡ ((allow && not (deny || left)) || ((deny && not allow)
    || ((left && not (allow || deny)) || (allow && (deny || left)))))
whole_is mask allow deny left list s bit f =
    rw (f.allows, f.denies, f.leaves) (by mask (can_answer [] list s bit (Some Allow))
    (can_answer [] list s bit (Some Deny)) (can_answer [] list s bit None) refl refl refl)
  where
    by : (m a d n : Bool) → can_answer [] list s bit (Some Allow) ≡ a → can_answer [] list s bit (Some Deny) ≡ d
        → can_answer [] list s bit None ≡ n
        → m ≡ (((m && a) && not ((m && d) || (m && n))) || (((m && d) && not (m && a))
        || (((m && n) && not ((m && a) || (m && d))) || ((m && a) && ((m && d) || (m && n))))))
    by false a d n ae de ne = refl
    by true true true true ae de ne = refl
    by true true true false ae de ne = refl
    by true true false true ae de ne = refl
    by true true false false ae de ne = refl
    by true false true true ae de ne = refl
    by true false true false ae de ne = refl
    by true false false true ae de ne = refl
    by true false false false ae de ne = absurd (none_allow
        (sym (is_none_or (answer_under (λ who. false) list s bit) (never_if list s bit (Some Allow) ae (λ who. false))
        (never_if list s bit (Some Deny) de (λ who. false)) (never_if list s bit None ne (λ who. false)))))

-- the rest of a list begins with the next ACE
pub rest_is : (aces : List AceRef) (i : ℕ) (item : AceRef) → i < length aces → item ≡ get_or aces i item
    → map ace (drop i aces) ≡ ace item ∷ map ace (drop (i + 1) aces)
rest_is aces i item lt read =
    at_drop_more (map ace) aces i item lt ∙ ap (λ (x : AceRef). ace x ∷ map ace (drop (i + 1) aces)) (sym read)

-- what may be answered after one more ACE
pub possible_next : (aces : List AceRef) (i : ℕ) (item : AceRef) (old new : Possible) (earlier : List Ace)
    (s : Situation) (bit : ℕ) (k : Option Kind) (whole : Bool) → i < length aces → item ≡ get_or aces i item
    → may_answer new (noting earlier (ace item)) (map ace (drop (i + 1) aces)) s bit k
    ≡ may_answer old earlier (ace item ∷ map ace (drop (i + 1) aces)) s bit k
    → may_answer old earlier (map ace (drop i aces)) s bit k ≡ whole
    → may_answer new (noting earlier (ace item)) (map ace (drop (i + 1) aces)) s bit k ≡ whole
possible_next aces i item old new earlier s bit k whole lt read step before =
    step ∙ ap (λ (list : List Ace). may_answer old earlier list s bit k) (sym (rest_is aces i item lt read)) ∙ before

-- before the first ACE
pub possible_first : (first : Possible) (mask : ℕ) (list : List Ace) (s : Situation) (bit : ℕ) (k : Option Kind)
    → first.allow.bits ≡ 0 → first.deny.bits ≡ 0 → first.left.bits ≡ mask
    → may_answer first [] list s bit k ≡ (has_bit mask bit && can_answer [] list s bit k)
possible_first first mask list s bit None a d l = rw l refl
possible_first first mask list s bit (Some Allow) a d l = rw (a, l, no_bit bit) refl
possible_first first mask list s bit (Some Deny) a d l = rw (d, l, no_bit bit) refl

-- after the last ACE the earlier ones do not count
pub possible_end : (aces : List AceRef) (i : ℕ) (possible : Possible) (earlier : List Ace) (s : Situation) (bit : ℕ)
    (k : Option Kind) (whole : Bool) → length aces ≤ i
    → may_answer possible earlier (map ace (drop i aces)) s bit k ≡ whole
    → may_answer possible [] [] s bit k ≡ whole
unfolding can_answer
possible_end aces i possible earlier s bit k whole past before =
    ap (λ (xs : List AceRef). may_answer possible earlier (map ace xs) s bit k) (sym (drop_all i aces past)) ∙ before

-- what the pass finds of a part, for the situation that is asked about
pub found_in_part : (possible : Possible) (mask : ℕ) (list kept : List Ace) (s t : Situation) (bit : ℕ) → list ≡ kept
    → s ≡ t
    → ((k : Option Kind) → may_answer possible [] [] s bit k ≡ (has_bit mask bit && can_answer [] list s bit k))
    → Found (has_bit mask bit) (has_bit possible.allow.bits bit) (has_bit possible.deny.bits bit)
    (has_bit possible.left.bits bit) kept t bit
found_in_part possible mask list kept s t bit same asked is =
    subst (λ (x : List Ace). Found (has_bit mask bit) (has_bit possible.allow.bits bit) (has_bit possible.deny.bits bit)
    (has_bit possible.left.bits bit) x t bit) same
    (subst (λ (u : Situation). Found (has_bit mask bit) (has_bit possible.allow.bits bit)
    (has_bit possible.deny.bits bit) (has_bit possible.left.bits bit) list u bit) asked
    (found possible mask list s bit is))
