-- What a list grants after a change of the mode, and its mode then.
use Rattle.std.proofs.Common.{◌≡◌, ℕ, ◌-◌, ◌<◌, ◌≤◌, Bool, true, false, cond, eqb, List, [], ◌∷◌, ◌++◌, refl, sym, ap, ◌∙◌, arith}
use Rattle.std.specs.Prelude.{◌&&◌, ◌||◌, not, Option, None, Some}
use Rattle.std.specs.List.{flat_map}
use Rattle.std.proofs.lemmas.Bool.{true≢false}
use Rattle.std.proofs.lemmas.List.Concat.{flat_map-cons}
use Rattle.acl_perm.proofs.Sets.{has_bit-and, no_bit}
use Rattle.acl_perm.specs.Bits.{all_mode_bits, has_bit}
use Rattle.acl_perm.specs.Mode.{group_part, mode_of_parts, others_part, owner_part}
use Rattle.acl_perm.specs.Principal.{Principal, owner, group, everyone}
use Rattle.acl_perm.specs.declared.kind.Kind.{Kind}
use Rattle.acl_perm.specs.declared.kind.Kind.TheVariants.{Allow, Deny}
use Rattle.acl_nfs4.specs.Ace.{Ace}
use Rattle.acl_nfs4.specs.Who.{everyone_name, group_name, owner_name, principal_of}
use Rattle.acl_eval.specs.Bridge.{image}
use Rattle.acl_eval.specs.Column.{column, first_kind, takes_part}
use Rattle.acl_eval.specs.Grant.{is_allow}
use Rattle.acl_change.specs.ListChmod.{after_chmod, by_name_first, chmod_list, class_ace, is_granted_after, lost_rights, mode_rights, named_aces, other_aces, owner_aces}
use Rattle.acl_eval.specs.ListMode.{is_for_group, is_for_others, is_for_owner, is_granted_by, mode_of_list, perm_of}
use Rattle.acl_eval.specs.Scan.{without}
use Rattle.acl_eval.specs.Unnamed.{is_unnamed}
use Rattle.acl_eval.proofs.Classes.{same_mode_of_parts, same_perm}
use Rattle.acl_eval.proofs.Images.{same_below}
use Rattle.acl_eval.proofs.Unnamed.{PassesNoName, group_no_name, others_no_name}
use Rattle.acl_eval.proofs.EntryRuns.{cond_twice}
use Rattle.acl_change.proofs.ChmodAces.{answer_of_mode, changes, deniable, group_lt, losable, not_in_image, of_mode, others_lt, remains, rest_bit, run_by, run_by-append, run_by-unless_empty, run_by_granted, stays, without_lt}

-- ---- the ACEs of the old list

-- a right that neither the group nor others have is not granted by the ACEs of names
none_granted : (kind : Option Kind) → by_name_first kind false false ≡ false
none_granted None = refl
none_granted (Some Allow) = refl
none_granted (Some Deny) = refl

-- the ACEs of the old list answer for a right of the mode as the first ACE of a name does
names_answer : (test : Principal → Bool) (mode : ℕ) (list : List Ace) (b : ℕ) (r : Bool) → has_bit mode_rights b ≡ true
    → (has_bit (image (group_part mode)) b ≡ false → has_bit (image (others_part mode)) b ≡ false → r ≡ false)
    → run_by test (flat_map (after_chmod mode) list) b r
    ≡ by_name_first (first_kind test (column (named_aces list) b)) (has_bit (image (group_part mode)) b) r
names_answer test mode [] b r e none = refl
names_answer test mode (a ∷ list) b r e none =
    ap (λ (l : List Ace). run_by test l b r) (flat_map-cons (after_chmod mode) a list)
    ∙ run_by-append test (after_chmod mode a) (flat_map (after_chmod mode) list) b r
    ∙ answer_of_mode test mode a b (run_by test (flat_map (after_chmod mode) list) b r) e
    ∙ ap (of_mode (is_unnamed (principal_of a)) (has_bit a.mask b) (takes_part a && test (principal_of a))
    (is_allow a.kind) g (has_bit (image (others_part mode)) b)) (names_answer test mode list b r e none)
    ∙ by (is_unnamed (principal_of a)) (has_bit a.mask b) (takes_part a) (test (principal_of a)) refl refl refl refl
  where
    g : Bool
    g = has_bit (image (group_part mode)) b

    rest : Bool
    rest = by_name_first (first_kind test (column (named_aces list) b)) (has_bit (image (group_part mode)) b) r

    -- the answer of an ALLOW of a name
    allowed : (gs os : Bool) → has_bit (image (group_part mode)) b ≡ gs → has_bit (image (others_part mode)) b ≡ os
        → cond gs true (cond os false rest) ≡ gs
    allowed true os p q = refl
    allowed false true p q = refl
    allowed false false p q =
        ap (λ (t : Bool). by_name_first (first_kind test (column (named_aces list) b)) t r) p
        ∙ ap (by_name_first (first_kind test (column (named_aces list) b)) false) (none p q)
        ∙ none_granted (first_kind test (column (named_aces list) b))

    decided : (kind : Kind) → cond (is_allow kind)
        (cond (has_bit (image (group_part mode)) b) true (cond (has_bit (image (others_part mode)) b) false rest)) false
        ≡ by_name_first (Some kind) (has_bit (image (group_part mode)) b) r
    decided Allow = allowed (has_bit (image (group_part mode)) b) (has_bit (image (others_part mode)) b) refl refl
    decided Deny = refl

    by : (u h t m : Bool) → is_unnamed (principal_of a) ≡ u → has_bit a.mask b ≡ h → takes_part a ≡ t
        → test (principal_of a) ≡ m
        → of_mode (is_unnamed (principal_of a)) (has_bit a.mask b) (takes_part a && test (principal_of a))
        (is_allow a.kind) (has_bit (image (group_part mode)) b) (has_bit (image (others_part mode)) b) rest
        ≡ by_name_first (first_kind test (column (named_aces (a ∷ list)) b)) (has_bit (image (group_part mode)) b) r
    by true h t m p q s v = rw p refl
    by false false t m p q s v = rw (p, q) refl
    by false true false m p q s v = rw (p, q, s) refl
    by false true true false p q s v = rw (p, q, s, v) refl
    by false true true true p q s v = rw (p, q, s, v) (decided a.kind)

-- ---- the ACEs of the owner, the group and others

-- the answer of an ACE of permissions
class_answer : (test : Principal → Bool) (kind : Kind) (who : List ℕ) (perm b : ℕ) (r : Bool) (p : Principal)
    → principal_of (record { kind = kind; flags = 0; mask = image perm; who = who }) ≡ p
    → run_by test (class_ace kind who perm) b r ≡ cond (has_bit (image perm) b && test p) (is_allow kind) r
class_answer test kind who perm b r p e =
    run_by-unless_empty test (record { kind = kind; flags = 0; mask = image perm; who = who }) b r
    ∙ ap (λ (x : Principal). cond (has_bit (image perm) b && test x) (is_allow kind) r) e

-- what is allowed, if it matches
one_way : (o m : Bool) → m ≡ true → cond (o && m) true false ≡ o
one_way true true e = refl
one_way true false e = absurd cc
one_way false m e = refl

-- the first ACEs answer for the owner alone
owner_answer : (test : Principal → Bool) (mode b : ℕ) (r : Bool) → mode ≤ all_mode_bits → has_bit mode_rights b ≡ true
    → run_by test (owner_aces mode) b r ≡ cond (test owner) (has_bit (image (owner_part mode)) b) r
owner_answer test mode b r le e =
    let perm : ℕ = owner_part mode in
    let small : perm < 8 = omega (arith, le) in
    run_by-append test (class_ace Allow owner_name perm) (class_ace Deny owner_name (7 - perm)) b r
    ∙ class_answer test Allow owner_name perm b (run_by test (class_ace Deny owner_name (7 - perm)) b r) owner refl
    ∙ ap (cond (has_bit (image perm) b && test owner) true)
    (class_answer test Deny owner_name (7 - perm) b r owner refl
    ∙ ap (λ (t : Bool). cond (t && test owner) false r) (rest_bit b perm small e))
    ∙ cond_twice (has_bit (image perm) b) (test owner) r

-- the last ACEs answer for the group, and for others
others_answer : (test : Principal → Bool) (mode b : ℕ) → test everyone ≡ true → has_bit mode_rights b ≡ true
    → run_by test (other_aces mode) b false
    ≡ cond (test group) (has_bit (image (group_part mode)) b) (has_bit (image (others_part mode)) b)
others_answer test mode b all e =
    let perm : ℕ = group_part mode in
    let last : List Ace = class_ace Allow everyone_name (others_part mode) in
    let others : run_by test last b false ≡ has_bit (image (others_part mode)) b =
    class_answer test Allow everyone_name (others_part mode) b false everyone refl
    ∙ one_way (has_bit (image (others_part mode)) b) (test everyone) all in
    run_by-append test (class_ace Allow group_name perm) (class_ace Deny group_name (7 - perm) ++ last) b false
    ∙ class_answer test Allow group_name perm b
    (run_by test (class_ace Deny group_name (7 - perm) ++ last) b false) group refl
    ∙ ap (cond (has_bit (image perm) b && test group) true)
    (run_by-append test (class_ace Deny group_name (7 - perm)) last b false
    ∙ class_answer test Deny group_name (7 - perm) b (run_by test last b false) group refl
    ∙ ap (λ (t : Bool). cond (t && test group) false (run_by test last b false)) (rest_bit b perm (group_lt mode) e))
    ∙ cond_twice (has_bit (image perm) b) (test group) (run_by test last b false)
    ∙ ap (cond (test group) (has_bit (image perm) b)) others

-- ---- the whole list

-- neither the group nor others have the right
neither : (t g o : Bool) → g ≡ false → o ≡ false → cond t g o ≡ false
neither true g o p q = p
neither false g o p q = q

-- a right of the mode is granted by the mode and by the first ACE of a name
pub granted_by_mode : (test : Principal → Bool) (mode : ℕ) (list : List Ace) (b : ℕ) → test everyone ≡ true
    → mode ≤ all_mode_bits → has_bit mode_rights b ≡ true
    → is_granted_by test (chmod_list mode list) b ≡ is_granted_after test mode list b
granted_by_mode test mode list b all le e =
    let middle : List Ace = flat_map (after_chmod mode) list in
    let last : Bool =
    cond (test group) (has_bit (image (group_part mode)) b) (has_bit (image (others_part mode)) b) in
    sym (run_by_granted test (chmod_list mode list) b)
    ∙ run_by-append test (owner_aces mode) (middle ++ other_aces mode) b false
    ∙ owner_answer test mode b (run_by test (middle ++ other_aces mode) b false) le e
    ∙ ap (cond (test owner) (has_bit (image (owner_part mode)) b))
    (run_by-append test middle (other_aces mode) b false
    ∙ ap (run_by test middle b) (others_answer test mode b all e)
    ∙ names_answer test mode list b last e
    (neither (test group) (has_bit (image (group_part mode)) b) (has_bit (image (others_part mode)) b)))

-- ---- the other rights

-- the answer of an ACE that changes, for a right that no ACE loses
answer_kept : (h m k r : Bool) → cond ((h && false) && m) false (cond ((h && not (h && false)) && m) k r)
    ≡ cond (h && m) k r
answer_kept true m k r = refl
answer_kept false m k r = refl

-- no ACE loses another right
not_losable : (mode : ℕ) (a : Ace) (b : ℕ) → has_bit mode_rights b ≡ false → has_bit (losable mode a) b ≡ false
not_losable mode a b e = by (is_unnamed (principal_of a)) (is_allow a.kind) refl refl
  where
    by : (u k : Bool) → is_unnamed (principal_of a) ≡ u → is_allow a.kind ≡ k → has_bit (losable mode a) b ≡ false
    by true k p q = rw p e
    by false true p q = rw (p, q) (not_in_image b (7 - group_part mode) (omega arith) e)
    by false false p q = rw (p, q) (no_bit b)

-- no name is denied another right
not_deniable : (mode : ℕ) (a : Ace) (b : ℕ) → has_bit mode_rights b ≡ false → has_bit (deniable mode a) b ≡ false
not_deniable mode a b e = by (is_unnamed (principal_of a)) refl
  where
    by : (u : Bool) → is_unnamed (principal_of a) ≡ u → has_bit (deniable mode a) b ≡ false
    by true p = rw p (no_bit b)
    by false p = rw p (not_in_image b (without (others_part mode) (group_part mode))
        (without_lt (others_part mode) (group_part mode) (others_lt mode)) e)

-- what the list has in place of an ACE answers for another right as the ACE does
answer_as_before : (test : Principal → Bool) (mode : ℕ) (a : Ace) (b : ℕ) (r : Bool) → has_bit mode_rights b ≡ false
    → run_by test (after_chmod mode a) b r ≡ run_by test (a ∷ []) b r
answer_as_before test mode a b r e = by (takes_part a) (eqb (lost_rights mode a) 0) refl refl
  where
    by : (t z : Bool) → takes_part a ≡ t → eqb (lost_rights mode a) 0 ≡ z
        → run_by test (after_chmod mode a) b r ≡ run_by test (a ∷ []) b r
    by false z p q =
        ap (λ (l : List Ace). run_by test l b r)
        (stays mode a (ap (λ (t : Bool). not t || eqb (lost_rights mode a) 0) p))
    by true true p q = ap (λ (l : List Ace). run_by test l b r)
        (stays mode a (ap (λ (t : Bool). not t || eqb (lost_rights mode a) 0) p ∙ q))
    by true false p q =
        let h : Bool = has_bit a.mask b in
        let m : Bool = test (principal_of a) in
        let k : Bool = is_allow a.kind in
        changes test mode a b r (ap (λ (t : Bool). not t || eqb (lost_rights mode a) 0) p ∙ q)
        ∙ ap (λ (t : Bool). cond (t && m) false (cond (has_bit (without a.mask (lost_rights mode a)) b && m) k r))
        (has_bit-and a.mask (deniable mode a) b ∙ ap (λ (t : Bool). h && t) (not_deniable mode a b e))
        ∙ ap (λ (t : Bool). cond ((h && false) && m) false (cond (t && m) k r))
        (remains mode a b ∙ ap (λ (t : Bool). h && not (h && t)) (not_losable mode a b e))
        ∙ answer_kept h m k r ∙ sym (ap (λ (t : Bool). cond (h && (t && m)) k r) p)

-- the ACEs of the old list answer for another right as they did
list_as_before : (test : Principal → Bool) (mode : ℕ) (list : List Ace) (b : ℕ) (r : Bool)
    → has_bit mode_rights b ≡ false → run_by test (flat_map (after_chmod mode) list) b r ≡ run_by test list b r
list_as_before test mode [] b r e = refl
list_as_before test mode (a ∷ list) b r e =
    ap (λ (l : List Ace). run_by test l b r) (flat_map-cons (after_chmod mode) a list)
    ∙ run_by-append test (after_chmod mode a) (flat_map (after_chmod mode) list) b r
    ∙ answer_as_before test mode a b (run_by test (flat_map (after_chmod mode) list) b r) e
    ∙ ap (run_by test (a ∷ []) b) (list_as_before test mode list b r e)

-- an ACE of permissions does not answer for another right
class_silent : (test : Principal → Bool) (kind : Kind) (who : List ℕ) (perm b : ℕ) (r : Bool) → perm < 8
    → has_bit mode_rights b ≡ false → run_by test (class_ace kind who perm) b r ≡ r
class_silent test kind who perm b r lt e =
    let a : Ace = record { kind = kind; flags = 0; mask = image perm; who = who } in
    run_by-unless_empty test a b r
    ∙ ap (λ (t : Bool). cond (t && (takes_part a && test (principal_of a))) (is_allow kind) r)
    (not_in_image b perm lt e)

-- another right is granted as before
pub granted_as_before : (test : Principal → Bool) (mode : ℕ) (list : List Ace) (b : ℕ) → mode ≤ all_mode_bits
    → has_bit mode_rights b ≡ false → is_granted_by test (chmod_list mode list) b ≡ is_granted_by test list b
granted_as_before test mode list b le e =
    let middle : List Ace = flat_map (after_chmod mode) list in
    let u : ℕ = owner_part mode in
    let g : ℕ = group_part mode in
    let o : ℕ = others_part mode in
    let rest : Bool = run_by test (middle ++ other_aces mode) b false in
    let last : List Ace = class_ace Allow everyone_name o in
    let silent : run_by test (other_aces mode) b false ≡ false =
    run_by-append test (class_ace Allow group_name g) (class_ace Deny group_name (7 - g) ++ last) b false
    ∙ class_silent test Allow group_name g b (run_by test (class_ace Deny group_name (7 - g) ++ last) b false)
    (group_lt mode) e
    ∙ run_by-append test (class_ace Deny group_name (7 - g)) last b false
    ∙ class_silent test Deny group_name (7 - g) b (run_by test last b false) (omega arith) e
    ∙ class_silent test Allow everyone_name o b false (others_lt mode) e in
    sym (run_by_granted test (chmod_list mode list) b)
    ∙ run_by-append test (owner_aces mode) (middle ++ other_aces mode) b false
    ∙ run_by-append test (class_ace Allow owner_name u) (class_ace Deny owner_name (7 - u)) b rest
    ∙ class_silent test Allow owner_name u b (run_by test (class_ace Deny owner_name (7 - u)) b rest)
    (omega (arith, le)) e
    ∙ class_silent test Deny owner_name (7 - u) b rest (omega arith) e
    ∙ run_by-append test middle (other_aces mode) b false ∙ ap (run_by test middle b) silent
    ∙ list_as_before test mode list b false e ∙ run_by_granted test list b

-- ---- the mode

-- no ACE of a name answers for such a test
no_names : (test : Principal → Bool) → PassesNoName test → (list : List Ace) (b : ℕ)
    → first_kind test (column (named_aces list) b) ≡ None
no_names test skips [] b = refl
no_names test skips (a ∷ list) b =
    by (no_names test skips list b) (is_unnamed (principal_of a)) (has_bit a.mask b) (takes_part a) refl refl refl
  where
    by : first_kind test (column (named_aces list) b) ≡ None → (u h t : Bool) → is_unnamed (principal_of a) ≡ u
        → has_bit a.mask b ≡ h → takes_part a ≡ t → first_kind test (column (named_aces (a ∷ list)) b) ≡ None
    by rest true h t p q s = rw p rest
    by rest false false t p q s = rw (p, q) rest
    by rest false true false p q s = rw (p, q, s) rest
    by rest false true true p q s = let n = skips (principal_of a) p in rw (p, q, s, n) rest

-- the permissions of the rights of permissions
perm_of_image : (p : ℕ) → p < 8 → perm_of (has_bit (image p)) ≡ p
unfolding image
perm_of_image = same_below 8 (λ p. perm_of (has_bit (image p))) (λ p. p) refl

-- the permissions of a list that grants the rights of some permissions
same_class : (test : Principal → Bool) (mode perm : ℕ) (list : List Ace) → perm < 8
    → ((b : ℕ) → has_bit mode_rights b ≡ true
    → is_granted_by test (chmod_list mode list) b ≡ has_bit (image perm) b)
    → perm_of (is_granted_by test (chmod_list mode list)) ≡ perm
same_class test mode perm list lt at =
    same_perm (is_granted_by test (chmod_list mode list)) (has_bit (image perm)) (at 0 refl) (at 1 refl) (at 2 refl)
    (at 5 refl) ∙ perm_of_image perm lt

-- the three parts of a mode make the mode
parts_of : (mode : ℕ) → mode_of_parts (owner_part mode) (group_part mode) (others_part mode) ≡ mode
parts_of mode = omega arith

-- the list has the mode
pub mode_after : (mode : ℕ) (list : List Ace) → mode ≤ all_mode_bits → mode_of_list (chmod_list mode list) ≡ mode
mode_after mode list le =
    let g = λ (b : ℕ). has_bit (image (group_part mode)) b in
    let o = λ (b : ℕ). has_bit (image (others_part mode)) b in
    same_mode_of_parts
    (same_class is_for_owner mode (owner_part mode) list (omega (arith, le))
    (λ b e. granted_by_mode is_for_owner mode list b refl le e))
    (same_class is_for_group mode (group_part mode) list (group_lt mode)
    (λ b e. granted_by_mode is_for_group mode list b refl le e
    ∙ ap (λ (k : Option Kind). by_name_first k (g b) (g b)) (no_names is_for_group group_no_name list b)))
    (same_class is_for_others mode (others_part mode) list (others_lt mode)
    (λ b e. granted_by_mode is_for_others mode list b refl le e
    ∙ ap (λ (k : Option Kind). by_name_first k (g b) (o b)) (no_names is_for_others others_no_name list b)))
    ∙ parts_of mode

-- ---- names

-- a requester whom an ACE names for a right, and who is not the owner, gets the right only if the group has it
pub named_within_group : (test : Principal → Bool) (mode : ℕ) (list : List Ace) (b : ℕ) (kind : Kind)
    → test owner ≡ false → first_kind test (column (named_aces list) b) ≡ Some kind
    → is_granted_after test mode list b ≡ true → has_bit (image (group_part mode)) b ≡ true
named_within_group test mode list b kind other first granted =
    by kind (ap (λ (k : Option Kind). by_name_first k (has_bit (image (group_part mode)) b)
    (cond (test group) (has_bit (image (group_part mode)) b) (has_bit (image (others_part mode)) b))) (sym first)
    ∙ sym (ap (λ (t : Bool). cond t (has_bit (image (owner_part mode)) b)
    (by_name_first (first_kind test (column (named_aces list) b)) (has_bit (image (group_part mode)) b)
    (cond (test group) (has_bit (image (group_part mode)) b) (has_bit (image (others_part mode)) b)))) other) ∙ granted)
  where
    by : (k : Kind) → by_name_first (Some k) (has_bit (image (group_part mode)) b)
        (cond (test group) (has_bit (image (group_part mode)) b) (has_bit (image (others_part mode)) b)) ≡ true
        → has_bit (image (group_part mode)) b ≡ true
    by Allow e = e
    by Deny e = absurd (true≢false (sym e))
