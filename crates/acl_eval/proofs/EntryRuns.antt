-- One bit of the ACEs of a list of entries.
use Rattle.std.proofs.Common.{◌≡◌, ℕ, ◌-◌, ◌<◌, Bool, true, false, cond, eqb, List, [], ◌∷◌, ◌++◌, refl, sym, ap, ◌∙◌, arith}
use Rattle.std.specs.Prelude.{bit_and, ◌&&◌, ◌||◌, not, unwrap_or}
use Rattle.std.specs.List.{list_any, AllByRecursion, filter, flat_map}
use Rattle.std.specs.FinMap as fin
use Rattle.std.proofs.lemmas.Bool.{eqb-true}
use Rattle.std.proofs.lemmas.Nat.{and_le_l}
use Rattle.acl_perm.specs.Bits.{has_bit}
use Rattle.acl_perm.proofs.Sets.{no_bit}
use Rattle.acl_perm.specs.Situation.{Situation}
use Rattle.acl_perm.specs.declared.kind.Kind.{Kind}
use Rattle.acl_perm.specs.declared.kind.Kind.TheVariants.{Allow, Deny}
use Rattle.acl_posix.specs.Tag.{Tag, mask, is_masked}
use Rattle.acl_posix.specs.Entries.{Entries, IsEntry}
use Rattle.acl_posix.specs.Mask.{effective_of}
use Rattle.acl_nfs4.specs.Ace.{Ace}
use Rattle.acl_eval.specs.Bridge.{image, ace_of, allow_of, deny_of, decide_of, each, is_user_tag, is_group_tag, is_other_tag, bridge_list}
use Rattle.acl_eval.specs.Grant.{is_allow}
use Rattle.acl_eval.proofs.Runs.{run, run-append}
use Rattle.acl_eval.proofs.Images.{Belongs, complement}
use Rattle.acl_eval.proofs.BridgeNames.{ace_with, tag_applies}

-- ---- one entry

-- the ACE of a tag decides a bit if it has the permission and matches the requester
run_ace : (k : Kind) (l : Tag) (p : ℕ) (s : Situation) (j b : ℕ) (r : Bool) → Belongs j b → p < 8
    → run (ace_of k l p) s b r ≡ cond (has_bit p j && tag_applies s l) (is_allow k) r
unfolding ace_of
run_ace k l p s j b r st lt =
    elim (eqb p 0) as (λ t. eqb p 0 ≡ t → run (cond t [] (ace_with k l (image p) ∷ [])) s b r
    ≡ cond (has_bit p j && tag_applies s l) (is_allow k) r) [
      | true ↦ λ e. let none : has_bit p j ≡ false = ap (λ (n : ℕ). has_bit n j) (eqb-true p 0 e) ∙ no_bit j in
          ap (λ (h : Bool). cond (h && tag_applies s l) (is_allow k) r) (sym none)
      | false ↦ λ e. ap (λ (h : Bool). cond (h && tag_applies s l) (is_allow k) r) (st.same p lt)
    ] refl

-- if an entry matches, its answer is whether it has the permission; otherwise the rest answers
pub cond_twice : (v m r : Bool) → cond (v && m) true (cond (not v && m) false r) ≡ cond m v r
cond_twice true true r = refl
cond_twice true false r = refl
cond_twice false true r = refl
cond_twice false false r = refl

-- effective permissions are permissions
pub effective_lt : (E : Entries) (e : Tag × ℕ) → e.1 < 8 → effective_of E e < 8
effective_lt E e lt = elim (is_masked e.0) as (λ t. cond t (bit_and e.1 (unwrap_or (fin.get E mask) e.1)) e.1 < 8) [
  | true ↦ omega (arith, and_le_l e.1 (unwrap_or (fin.get E mask) e.1))
  | false ↦ lt
]

-- what an entry allows decides a bit if the entry has the permission
run_allow : (E : Entries) (e : Tag × ℕ) (s : Situation) (j b : ℕ) (r : Bool) → Belongs j b → e.1 < 8
    → run (allow_of E e) s b r ≡ cond (has_bit (effective_of E e) j && tag_applies s e.0) true r
run_allow E e s j b r st lt = run_ace Allow e.0 (effective_of E e) s j b r st (effective_lt E e lt)

-- what an entry denies decides a bit if the entry does not have the permission
run_deny : (E : Entries) (e : Tag × ℕ) (s : Situation) (j b : ℕ) (r : Bool) → Belongs j b → j < 3 → e.1 < 8
    → run (deny_of E e) s b r ≡ cond (not (has_bit (effective_of E e) j) && tag_applies s e.0) false r
run_deny E e s j b r st js lt =
    run_ace Deny e.0 (7 - effective_of E e) s j b r st (omega arith)
    ∙ ap (λ (h : Bool). cond (h && tag_applies s e.0) false r)
    (complement j (effective_of E e) js (effective_lt E e lt))

-- what an entry allows and denies together decides every bit, if the entry matches the requester
run_decide : (E : Entries) (e : Tag × ℕ) (s : Situation) (j b : ℕ) (r : Bool) → Belongs j b → j < 3 → e.1 < 8
    → run (decide_of E e) s b r ≡ cond (tag_applies s e.0) (has_bit (effective_of E e) j) r
run_decide E e s j b r st js lt =
    run-append (allow_of E e) (deny_of E e) s b r
    ∙ run_allow E e s j b (run (deny_of E e) s b r) st lt
    ∙ ap (λ (z : Bool). cond (has_bit (effective_of E e) j && tag_applies s e.0) true z) (run_deny E e s j b r st js lt)
    ∙ cond_twice (has_bit (effective_of E e) j) (tag_applies s e.0) r

-- ---- a list of entries

-- the answer of the first element that passes the test, or the given answer if there is none
abbrev pub first : {X : Type 0} → (X → Bool) → (X → Bool) → List X → Bool → Bool
first m v [] r = r
first m v (x ∷ xs) r = cond (m x) (v x) (first m v xs r)

-- the first entry that passes the test decides for some entries of a list
run_each : (which : Tag → Bool) (f : Tag × ℕ → List Ace) (m v : Tag × ℕ → Bool) (s : Situation) (b : ℕ) (r : Bool)
    (es : List (Tag × ℕ))
    → AllByRecursion (λ e. (t : Bool) → run (f e) s b t ≡ cond (m e) (v e) t) es
    → run (each which f es) s b r ≡ first (λ e. which e.0 && m e) v es r
run_each which f m v s b r [] all = refl
run_each which f m v s b r (e ∷ es) all =
    let rest = run_each which f m v s b r es all.1 in
    let others : List (Tag × ℕ) = filter (λ x. which x.0) es in
    elim (which e.0) as (λ t. run (flat_map f (cond t (e ∷ others) others)) s b r
    ≡ cond (t && m e) (v e) (first (λ x. which x.0 && m x) v es r)) [
      | true ↦ run-append (f e) (each which f es) s b r ∙ all.0 (run (each which f es) s b r)
          ∙ ap (λ (z : Bool). cond (m e) (v e) z) rest
      | false ↦ rest
    ]

-- if all elements give the same answer, it only matters whether one of them passes the test
first_const : {X : Type 0} (m : X → Bool) (c : Bool) (xs : List X) (r : Bool) → first m (λ _. c) xs r
    ≡ cond (list_any m xs) c r
first_const m c [] r = refl
first_const m c (x ∷ xs) r =
    elim (m x) as (λ t. cond t c (first m (λ _. c) xs r)
    ≡ cond (t || list_any m xs) c r) [ true ↦ refl | false ↦ first_const m c xs r ]

-- the effective permissions of the entry have the bit
abbrev pub bit_of : Entries → ℕ → Tag × ℕ → Bool
bit_of E j e = has_bit (effective_of E e) j

-- the entry is of a user and matches
abbrev pub users_test : Situation → Tag × ℕ → Bool
users_test s e = is_user_tag e.0 && tag_applies s e.0

-- the entry is of a group, allows the bit and matches
abbrev pub allows_test : Entries → Situation → ℕ → Tag × ℕ → Bool
allows_test E s j e = is_group_tag e.0 && (bit_of E j e && tag_applies s e.0)

-- the entry is of a group, denies the bit and matches
abbrev pub denies_test : Entries → Situation → ℕ → Tag × ℕ → Bool
denies_test E s j e = is_group_tag e.0 && (not (bit_of E j e) && tag_applies s e.0)

-- the entry is of OTHER, allows the bit and matches
abbrev pub others_test : Entries → Situation → ℕ → Tag × ℕ → Bool
others_test E s j e = is_other_tag e.0 && (bit_of E j e && tag_applies s e.0)

-- the answer of the group class and OTHER
abbrev pub class_answer : Entries → Situation → ℕ → List (Tag × ℕ) → Bool
class_answer E s j es = cond (list_any (allows_test E s j) es) true (cond (list_any (denies_test E s j) es) false
    (cond (list_any (others_test E s j) es) true false))

-- a fact that holds for all elements implies any weaker fact for all elements
pub each_weaker : {X : Type 0} (P Q : X → Type 0) → ((x : X) → P x → Q x) → (xs : List X) → AllByRecursion P xs
    → AllByRecursion Q xs
each_weaker P Q f [] h = tt
each_weaker P Q f (x ∷ xs) h = (f x h.0, each_weaker P Q f xs h.1)

-- the first entry of a user that matches decides for the list, and otherwise the group class and OTHER
pub run_bridge : (E : Entries) (s : Situation) (j b : ℕ) → Belongs j b → j < 3 → AllByRecursion IsEntry (fin.entries E)
    → run (bridge_list E) s b false ≡ first (users_test s) (bit_of E j) (fin.entries E)
    (class_answer E s j (fin.entries E))
unfolding bridge_list
run_bridge E s j b st js all =
    let es = fin.entries E in
    let D = each is_user_tag (decide_of E) es in
    let A = each is_group_tag (allow_of E) es in
    let N = each is_group_tag (deny_of E) es in
    let O = each is_other_tag (allow_of E) es in
    let allows =
    each_weaker IsEntry (λ e. (t : Bool) → run (allow_of E e) s b t ≡ cond (bit_of E j e && tag_applies s e.0) true t)
    (λ e is t. run_allow E e s j b t st is.1) es all in
    let denies =
    each_weaker IsEntry (λ e. (t : Bool)
    → run (deny_of E e) s b t ≡ cond (not (bit_of E j e) && tag_applies s e.0) false
    t) (λ e is t. run_deny E e s j b t st js is.1) es all in
    let decides = each_weaker IsEntry (λ e. (t : Bool) → run (decide_of E e) s b t ≡ cond (tag_applies s e.0)
    (bit_of E j e) t) (λ e is t. run_decide E e s j b t st js is.1) es all in
    let last : run O s b false ≡ cond (list_any (others_test E s j) es) true false =
    run_each is_other_tag (allow_of E) (λ e. bit_of E j e && tag_applies s e.0) (λ _. true) s b false es allows
    ∙ first_const (others_test E s j) true es false in
    let refuse : run N s b (run O s b false) ≡ cond (list_any (denies_test E s j) es) false
    (cond (list_any (others_test E s j) es) true false) =
    run_each is_group_tag (deny_of E) (λ e. not (bit_of E j e) && tag_applies s e.0) (λ _. false) s b
    (run O s b false) es denies
    ∙ first_const (denies_test E s j) false es (run O s b false)
    ∙ ap (λ (z : Bool). cond (list_any (denies_test E s j) es) false z) last in
    let class : run A s b (run N s b (run O s b false)) ≡ class_answer E s j es =
    run_each is_group_tag (allow_of E) (λ e. bit_of E j e && tag_applies s e.0) (λ _. true) s b
    (run N s b (run O s b false)) es allows
    ∙ first_const (allows_test E s j) true es (run N s b (run O s b false))
    ∙ ap (λ (z : Bool). cond (list_any (allows_test E s j) es) true z) refuse in
    run-append (D ++ A ++ N) O s b false ∙ run-append (D ++ A) N s b (run O s b false)
    ∙ run-append D A s b (run N s b (run O s b false))
    ∙ run_each is_user_tag (decide_of E) (λ e. tag_applies s e.0) (bit_of E j) s b
    (run A s b (run N s b (run O s b false))) es decides
    ∙ ap (λ (z : Bool). first (users_test s) (bit_of E j) es z) class
