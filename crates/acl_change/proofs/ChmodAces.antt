-- What a list has in place of an ACE after a change of the mode, and what that grants.
use Rattle.std.proofs.Common.{◌≡◌, ℕ, ◌-◌, ◌<◌, Bool, true, false, cond, eqb, List, [], ◌∷◌, ◌++◌, refl, sym, ap, ◌∙◌, arith}
use Rattle.std.specs.Prelude.{◌&&◌, ◌||◌, not, bit_and, bit_or}
use Rattle.std.proofs.lemmas.Bool.{eqb-true, true≢false}
use Rattle.std.proofs.lemmas.Nat.{xor_lt, and_le_l}
use Rattle.acl_perm.proofs.Bools.{and_false_right, and_true_right, or_true_right}
use Rattle.acl_perm.proofs.Sets.{has_bit-and, has_bit-or, no_bit}
use Rattle.acl_perm.specs.Bits.{has_bit, identifier_group, inherit_only}
use Rattle.acl_perm.specs.Mode.{group_part, others_part}
use Rattle.acl_perm.specs.Principal.{Principal}
use Rattle.acl_perm.specs.declared.kind.Kind.{Kind}
use Rattle.acl_perm.specs.declared.kind.Kind.TheVariants.{Deny}
use Rattle.acl_nfs4.specs.Ace.{Ace}
use Rattle.acl_nfs4.specs.Who.{principal_of}
use Rattle.acl_eval.specs.Bridge.{image}
use Rattle.acl_eval.specs.Column.{takes_part}
use Rattle.acl_eval.specs.Grant.{is_allow}
use Rattle.acl_change.specs.ListChmod.{after_chmod, denied_rights, for_new_objects, for_this_object, lost_rights, mode_rights, only_of_others, unless_empty}
use Rattle.acl_eval.specs.ListMode.{is_granted_by}
use Rattle.acl_eval.specs.Scan.{without}
use Rattle.acl_eval.specs.Unnamed.{is_unnamed}
use Rattle.acl_eval.proofs.Images.{Permits, complement, image_bit, same_below}
use Rattle.acl_eval.proofs.Scans.{has_bit-without}

-- ---- the answer of a list, given which principals match

-- the first ACE that has the bit, takes part and names such a principal answers, or else this is the given answer
abbrev pub run_by : (Principal → Bool) → List Ace → ℕ → Bool → Bool
run_by test [] b r = r
run_by test (a ∷ list) b r =
    cond (has_bit a.mask b && (takes_part a && test (principal_of a))) (is_allow a.kind) (run_by test list b r)

-- of two lists, the second one answers if the first one does not
pub run_by-append : (test : Principal → Bool) (xs ys : List Ace) (b : ℕ) (r : Bool)
    → run_by test (xs ++ ys) b r ≡ run_by test xs b (run_by test ys b r)
run_by-append test [] ys b r = refl
run_by-append test (a ∷ xs) ys b r = ap (λ (z : Bool).
    cond (has_bit a.mask b && (takes_part a && test (principal_of a))) (is_allow a.kind) z)
    (run_by-append test xs ys b r)

-- if no ACE answers, the bit is denied
pub run_by_granted : (test : Principal → Bool) (list : List Ace) (b : ℕ)
    → run_by test list b false ≡ is_granted_by test list b
run_by_granted test [] b = refl
run_by_granted test (a ∷ list) b =
    by (run_by_granted test list b) (has_bit a.mask b) (takes_part a) (test (principal_of a)) refl refl refl
  where
    by : run_by test list b false ≡ is_granted_by test list b → (h t m : Bool) → has_bit a.mask b ≡ h
        → takes_part a ≡ t → test (principal_of a) ≡ m
        → run_by test (a ∷ list) b false ≡ is_granted_by test (a ∷ list) b
    by rest false t m p q s = rw p rest
    by rest true false m p q s = rw (p, q) rest
    by rest true true true p q s = rw (p, q, s) refl
    by rest true true false p q s = rw (p, q, s) rest

-- ---- the bits of the rights of a mode

-- the parts of a mode are below 8
pub group_lt : (mode : ℕ) → group_part mode < 8
group_lt mode = omega arith

-- the permissions of others are below 8
pub others_lt : (mode : ℕ) → others_part mode < 8
others_lt mode = omega arith

-- the rights of all permissions together are those of a mode
all_rights_of_modes : image 7 ≡ mode_rights
unfolding image
all_rights_of_modes = refl

-- a right of a mode belongs to one of the three permissions
belongs_to : (b : ℕ) → has_bit mode_rights b ≡ true → Permits 7 b
belongs_to b e = image_bit 7 b (omega arith) (ap (λ (n : ℕ). has_bit n b) all_rights_of_modes ∙ e)

-- no set of permissions has another right
pub not_in_image : (b p : ℕ) → p < 8 → has_bit mode_rights b ≡ false → has_bit (image p) b ≡ false
not_in_image b p lt e = by (has_bit (image p) b) refl
  where
    by : (t : Bool) → has_bit (image p) b ≡ t → has_bit (image p) b ≡ false
    by false h = h
    by true h =
        let permitted : Permits p b = image_bit p b lt h in
        let has : has_bit 7 permitted.j ≡ true =
        same_below 3 (has_bit 7) (λ k. true) refl permitted.j permitted.small in
        absurd (true≢false (sym has ∙ sym (permitted.belongs.same 7 (omega arith))
        ∙ ap (λ (n : ℕ). has_bit n b) all_rights_of_modes ∙ e))

-- the other permissions have a right of a mode if and only if the permissions do not
pub rest_bit : (b p : ℕ) → p < 8 → has_bit mode_rights b ≡ true → has_bit (image (7 - p)) b ≡ not (has_bit (image p) b)
rest_bit b p lt e =
    let permitted : Permits 7 b = belongs_to b e in
    permitted.belongs.same (7 - p) (omega (arith, lt)) ∙ complement permitted.j p permitted.small lt
    ∙ ap not (sym (permitted.belongs.same p lt))

-- a difference of permissions is below 8
pub without_lt : (m n : ℕ) → m < 8 → without m n < 8
without_lt m n lt = xor_lt 3 m (bit_and m n) lt (omega (arith, and_le_l m n, lt))

-- the rights of a difference of permissions
only_bit : (b m n : ℕ) → m < 8 → n < 8 → has_bit mode_rights b ≡ true
    → has_bit (image (without m n)) b ≡ (has_bit (image m) b && not (has_bit (image n) b))
only_bit b m n ml nl e =
    let permitted : Permits 7 b = belongs_to b e in
    permitted.belongs.same (without m n) (without_lt m n ml) ∙ has_bit-without m n permitted.j
    ∙ rw (sym (permitted.belongs.same m ml), sym (permitted.belongs.same n nl)) refl

-- ---- one ACE, or none

-- the answer of an ACE that is left out if its mask is empty
pub run_by-unless_empty : (test : Principal → Bool) (a : Ace) (b : ℕ) (r : Bool) → run_by test (unless_empty a) b r
    ≡ cond (has_bit a.mask b && (takes_part a && test (principal_of a))) (is_allow a.kind) r
run_by-unless_empty test a b r = by (eqb a.mask 0) refl
  where
    by : (z : Bool) → eqb a.mask 0 ≡ z → run_by test (unless_empty a) b r
        ≡ cond (has_bit a.mask b && (takes_part a && test (principal_of a))) (is_allow a.kind) r
    by true z = let none : has_bit a.mask b ≡ false = ap (λ (m : ℕ). has_bit m b) (eqb-true a.mask 0 z) ∙ no_bit b in
        rw (z, none) refl
    by false z = rw z refl

-- an ACE for this object alone names whom the ACE names
same_name : (a : Ace) (kind : Kind) (mask : ℕ) → principal_of (for_this_object a kind mask) ≡ principal_of a
same_name a kind mask =
    let same : has_bit (bit_and a.flags 0xf0) identifier_group ≡ has_bit a.flags identifier_group =
    has_bit-and a.flags 0xf0 identifier_group ∙ and_true_right (has_bit a.flags identifier_group) in
    rw same refl

-- an ACE for this object alone takes part
takes_part_here : (a : Ace) (kind : Kind) (mask : ℕ) → takes_part (for_this_object a kind mask) ≡ true
takes_part_here a kind mask =
    ap not (has_bit-and a.flags 0xf0 inherit_only ∙ and_false_right (has_bit a.flags inherit_only))

-- the answer of an ACE for this object alone
here : (test : Principal → Bool) (a : Ace) (kind : Kind) (mask b : ℕ) (r : Bool)
    → run_by test (unless_empty (for_this_object a kind mask)) b r
    ≡ cond (has_bit mask b && test (principal_of a)) (is_allow kind) r
here test a kind mask b r = run_by-unless_empty test (for_this_object a kind mask) b r
    ∙ ap (λ (t : Bool). cond (has_bit mask b && (t && test (principal_of (for_this_object a kind mask))))
    (is_allow kind) r) (takes_part_here a kind mask)
    ∙ ap (λ (p : Principal). cond (has_bit mask b && test p) (is_allow kind) r) (same_name a kind mask)

-- an ACE for new objects alone does not answer
not_here : (test : Principal → Bool) (a : Ace) (b : ℕ) (r : Bool) → run_by test (for_new_objects a) b r ≡ r
not_here test a b r = by (has_bit a.flags 0 || has_bit a.flags 1) refl
  where
    by : (z : Bool) → (has_bit a.flags 0 || has_bit a.flags 1) ≡ z → run_by test (for_new_objects a) b r ≡ r
    by false z = rw z refl
    by true z =
        let set : has_bit (bit_or a.flags 8) inherit_only ≡ true =
        has_bit-or a.flags 8 inherit_only ∙ or_true_right (has_bit a.flags inherit_only) in
        rw (z, set, and_false_right (has_bit a.mask b)) refl

-- ---- what the list has in place of an ACE

-- an ACE stays as it is if it takes no part or loses no right
pub stays : (mode : ℕ) (a : Ace) → (not (takes_part a) || eqb (lost_rights mode a) 0) ≡ true
    → after_chmod mode a ≡ a ∷ []
stays mode a e = rw e refl

-- otherwise its answer is that of a DENY and then that of what remains
pub changes : (test : Principal → Bool) (mode : ℕ) (a : Ace) (b : ℕ) (r : Bool)
    → (not (takes_part a) || eqb (lost_rights mode a) 0) ≡ false
    → run_by test (after_chmod mode a) b r
    ≡ cond (has_bit (denied_rights mode a) b && test (principal_of a)) false
    (cond (has_bit (without a.mask (lost_rights mode a)) b && test (principal_of a)) (is_allow a.kind) r)
changes test mode a b r e =
    let denying = unless_empty (for_this_object a Deny (denied_rights mode a)) in
    let kept = unless_empty (for_this_object a a.kind (without a.mask (lost_rights mode a))) in
    let is : after_chmod mode a ≡ for_new_objects a ++ (denying ++ kept) = rw e refl in
    ap (λ (l : List Ace). run_by test l b r) is
    ∙ run_by-append test (for_new_objects a) (denying ++ kept) b r
    ∙ not_here test a b (run_by test (denying ++ kept) b r)
    ∙ run_by-append test denying kept b r
    ∙ here test a Deny (denied_rights mode a) b (run_by test kept b r)
    ∙ ap (λ (z : Bool). cond (has_bit (denied_rights mode a) b && test (principal_of a)) false z)
    (here test a a.kind (without a.mask (lost_rights mode a)) b r)

-- the rights that an ACE may lose
abbrev pub losable : ℕ → Ace → ℕ
losable mode a = cond (is_unnamed (principal_of a)) mode_rights
    (cond (is_allow a.kind) (image (7 - group_part mode)) 0)

-- the rights that may be denied to the name of an ACE
abbrev pub deniable : ℕ → Ace → ℕ
deniable mode a = cond (is_unnamed (principal_of a)) 0 (only_of_others mode)

-- an ACE that loses no right lacks the bit, if it may lose the bit
loses_none : (mode : ℕ) (a : Ace) (b : ℕ) → eqb (lost_rights mode a) 0 ≡ true
    → (has_bit a.mask b && has_bit (losable mode a) b) ≡ false
loses_none mode a b e = sym (has_bit-and a.mask (losable mode a) b)
    ∙ ap (λ (n : ℕ). has_bit n b) (eqb-true (lost_rights mode a) 0 e) ∙ no_bit b

-- what remains of a mask has a bit if and only if the mask has it and does not lose it
pub remains : (mode : ℕ) (a : Ace) (b : ℕ) → has_bit (without a.mask (lost_rights mode a)) b
    ≡ (has_bit a.mask b && not (has_bit a.mask b && has_bit (losable mode a) b))
remains mode a b = has_bit-without a.mask (lost_rights mode a) b
    ∙ ap (λ (t : Bool). has_bit a.mask b && not t) (has_bit-and a.mask (losable mode a) b)

-- ---- a right of the mode

-- the answer of an ACE for a right of the mode, given whether it names nobody, has the bit, matches and allows, whether
-- the group and others have the right, and the answer of the ACEs after it
abbrev pub of_mode : (u h m k g o r : Bool) → Bool
of_mode u h m k g o r = cond (not u && (h && m)) (cond k (cond g true (cond o false r)) false) r

-- of an ACE that changes
answer_changed : (u h m k g o r : Bool)
    → cond ((h && cond u false (o && not g)) && m) false
    (cond ((h && not (h && cond u true (cond k (not g) false))) && m) k r) ≡ of_mode u h m k g o r
answer_changed true false m k g o r = refl
answer_changed true true m k g o r = refl
answer_changed false false m k g o r = refl
answer_changed false true true true true true r = refl
answer_changed false true true true true false r = refl
answer_changed false true true true false true r = refl
answer_changed false true true true false false r = refl
answer_changed false true true false true true r = refl
answer_changed false true true false true false r = refl
answer_changed false true true false false true r = refl
answer_changed false true true false false false r = refl
answer_changed false true false true true true r = refl
answer_changed false true false true true false r = refl
answer_changed false true false true false true r = refl
answer_changed false true false true false false r = refl
answer_changed false true false false true true r = refl
answer_changed false true false false true false r = refl
answer_changed false true false false false true r = refl
answer_changed false true false false false false r = refl

-- of an ACE that stays
answer_stays : (u h m k g o r : Bool) → (h && cond u true (cond k (not g) false)) ≡ false
    → cond (h && m) k r ≡ of_mode u h m k g o r
answer_stays true false m k g o r e = refl
answer_stays true true m k g o r e = absurd cc
answer_stays false false m k g o r e = refl
answer_stays false true false k g o r e = refl
answer_stays false true true true true o r e = refl
answer_stays false true true true false o r e = absurd cc
answer_stays false true true false g o r e = refl

-- the bit that an ACE may lose
losable_bit : (mode : ℕ) (a : Ace) (b : ℕ) → has_bit mode_rights b ≡ true → has_bit (losable mode a) b
    ≡ cond (is_unnamed (principal_of a)) true (cond (is_allow a.kind) (not (has_bit (image (group_part mode)) b)) false)
losable_bit mode a b e = by (is_unnamed (principal_of a)) (is_allow a.kind) refl refl
  where
    by : (u k : Bool) → is_unnamed (principal_of a) ≡ u → is_allow a.kind ≡ k → has_bit (losable mode a) b
        ≡ cond (is_unnamed (principal_of a)) true
        (cond (is_allow a.kind) (not (has_bit (image (group_part mode)) b)) false)
    by true k p q = rw p e
    by false true p q = rw (p, q) (rest_bit b (group_part mode) (group_lt mode) e)
    by false false p q = rw (p, q) (no_bit b)

-- the bit that may be denied to the name of an ACE
deniable_bit : (mode : ℕ) (a : Ace) (b : ℕ) → has_bit mode_rights b ≡ true → has_bit (deniable mode a) b
    ≡ cond (is_unnamed (principal_of a)) false
    (has_bit (image (others_part mode)) b && not (has_bit (image (group_part mode)) b))
deniable_bit mode a b e = by (is_unnamed (principal_of a)) refl
  where
    by : (u : Bool) → is_unnamed (principal_of a) ≡ u → has_bit (deniable mode a) b
        ≡ cond (is_unnamed (principal_of a)) false
        (has_bit (image (others_part mode)) b && not (has_bit (image (group_part mode)) b))
    by true p = rw p (no_bit b)
    by false p = rw p (only_bit b (others_part mode) (group_part mode) (others_lt mode) (group_lt mode) e)

-- an ACE that does not match does not answer
of_none : (u h k g o r : Bool) → of_mode u h false k g o r ≡ r
of_none u h k g o r = ap (λ (t : Bool). cond (not u && t) (cond k (cond g true (cond o false r)) false) r)
    (and_false_right h)
    ∙ ap (λ (t : Bool). cond t (cond k (cond g true (cond o false r)) false) r) (and_false_right (not u))

-- the answer of what the list has in place of an ACE that takes part, for a right of the mode
pub answer_of_mode : (test : Principal → Bool) (mode : ℕ) (a : Ace) (b : ℕ) (r : Bool) → has_bit mode_rights b ≡ true
    → run_by test (after_chmod mode a) b r ≡ of_mode (is_unnamed (principal_of a)) (has_bit a.mask b)
    (takes_part a && test (principal_of a)) (is_allow a.kind) (has_bit (image (group_part mode)) b)
    (has_bit (image (others_part mode)) b) r
answer_of_mode test mode a b r e = by (takes_part a) (eqb (lost_rights mode a) 0) refl refl
  where
    u : Bool
    u = is_unnamed (principal_of a)

    h : Bool
    h = has_bit a.mask b

    m : Bool
    m = test (principal_of a)

    k : Bool
    k = is_allow a.kind

    g : Bool
    g = has_bit (image (group_part mode)) b

    o : Bool
    o = has_bit (image (others_part mode)) b

    by : (t z : Bool) → takes_part a ≡ t → eqb (lost_rights mode a) 0 ≡ z
        → run_by test (after_chmod mode a) b r ≡ of_mode u h (takes_part a && m) k g o r
    by false z p q =
        ap (λ (l : List Ace). run_by test l b r)
        (stays mode a (ap (λ (t : Bool). not t || eqb (lost_rights mode a) 0) p))
        ∙ ap (λ (t : Bool). cond (h && (t && m)) k r) p ∙ ap (λ (t : Bool). cond t k r) (and_false_right h)
        ∙ sym (ap (λ (t : Bool). of_mode u h (t && m) k g o r) p ∙ of_none u h k g o r)
    by true true p q =
        ap (λ (l : List Ace). run_by test l b r)
        (stays mode a (ap (λ (t : Bool). not t || eqb (lost_rights mode a) 0) p ∙ q))
        ∙ ap (λ (t : Bool). cond (h && (t && m)) k r) p
        ∙ answer_stays u h m k g o r (ap (λ (t : Bool). h && t) (sym (losable_bit mode a b e)) ∙ loses_none mode a b q)
        ∙ sym (ap (λ (t : Bool). of_mode u h (t && m) k g o r) p)
    by true false p q =
        changes test mode a b r (ap (λ (t : Bool). not t || eqb (lost_rights mode a) 0) p ∙ q)
        ∙ ap (λ (t : Bool). cond (t && m) false (cond (has_bit (without a.mask (lost_rights mode a)) b && m) k r))
        (has_bit-and a.mask (deniable mode a) b ∙ ap (λ (t : Bool). h && t) (deniable_bit mode a b e))
        ∙ ap (λ (t : Bool). cond ((h && cond u false (o && not g)) && m) false (cond (t && m) k r))
        (remains mode a b ∙ ap (λ (t : Bool). h && not (h && t)) (losable_bit mode a b e))
        ∙ answer_changed u h m k g o r ∙ sym (ap (λ (t : Bool). of_mode u h (t && m) k g o r) p)
