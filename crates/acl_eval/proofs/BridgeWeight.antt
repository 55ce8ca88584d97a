-- The weight of the list of a POSIX ACL.
use Rattle.std.proofs.Common.{◌≡◌, ℕ, ◌+◌, ◌-◌, ◌<◌, ◌≤◌, Bool, true, false, cond, eqb, List, [], ◌∷◌, ◌++◌, length, get_or, take, refl, sym, ap, ◌∙◌, arith}
use Rattle.std.specs.Prelude.{count_ones, sum_by, IsTrue, ◌↔◌, All}
use Rattle.std.specs.List.{AllByRecursion, filter, flat_map}
use Rattle.std.specs.FinMap as fin
use Rattle.std.proofs.lemmas.Bool.{eqb-true, true≢false}
use Rattle.std.proofs.lemmas.List.{take_all}
use Rattle.std.proofs.lemmas.List.Elements.{recursion_from_All}
use Rattle.std.proofs.lemmas.List.Sums.{sum_by-append, sum_by-cons, sum_by_more, sum_by-take-le}
use Rattle.acl_perm.specs.declared.kind.Kind.{Kind}
use Rattle.acl_perm.specs.declared.kind.Kind.TheVariants.{Allow, Deny}
use Rattle.acl_posix.specs.declared.entry.Entry.{Entry}
use Rattle.acl_posix.specs.Tag.{Tag, user_obj, user, group_obj, group, mask, other}
use Rattle.acl_posix.specs.Entries.{Entries, IsEntry, pairs, pair_of}
use Rattle.acl_posix.specs.Mask.{effective_of}
use Rattle.acl_perm.specs.Profile.{full}
use Rattle.acl_nfs4.specs.Ace.{Ace}
use Rattle.acl_nfs4.specs.Limits.{most_weight}
use Rattle.acl_nfs4.specs.Spelling.{weight, IsAccepted}
use Rattle.acl_nfs4.proofs.Exports.{weight-cons}
use Rattle.acl_eval.specs.Bridge.{image, bridged_who, bridged_flags, ace_of, allow_of, deny_of, decide_of, each, is_user_tag, is_group_tag, is_other_tag, bridge_list}
use Rattle.acl_eval.specs.internal.BridgeBody.{cost_of}
use Rattle.acl_eval.proofs.Images.{four_bits, image_none}
use Rattle.acl_eval.proofs.EntryRuns.{effective_lt}
use Rattle.acl_eval.proofs.Accepted.{aces_valid, length_within}

-- the ACEs of a tag have as many mask bits as the rights of its permissions
weight_ace : (k : Kind) (l : Tag) (p : ℕ) → weight (ace_of k l p) ≡ count_ones (image p)
unfolding ace_of
weight_ace k l p =
    elim (eqb p 0) as (λ t. eqb p 0 ≡ t
    → weight (cond t [] (record { kind = k; flags = bridged_flags l; mask = image p; who = bridged_who l } ∷ []))
    ≡ count_ones (image p)) [
      | true ↦ λ e. sym image_none ∙ ap (λ (n : ℕ). count_ones (image n)) (sym (eqb-true p 0 e))
      | false ↦ λ e. omega (
        arith,
        weight-cons (record { kind = k; flags = bridged_flags l; mask = image p; who = bridged_who l }) [],
      )
    ] refl

-- the weight of two lists together is the sum of their weights
pub weight-append : (xs ys : List Ace) → weight (xs ++ ys) ≡ weight xs + weight ys
weight-append xs ys = sum_by-append (λ (a : Ace). count_ones a.mask) xs ys

-- what an entry allows and what it denies have four mask bits together
both_weigh : (E : Entries) (e : Tag × ℕ) → e.1 < 8 → weight (allow_of E e) + weight (deny_of E e) ≡ 4
both_weigh E e lt =
    omega (
      arith,
      weight_ace Allow e.0 (effective_of E e),
      weight_ace Deny e.0 (7 - effective_of E e),
      four_bits
          (effective_of E e) (effective_lt E e lt),
    )

-- an entry adds the weight of its ACEs to a part of the list if the part is about such entries
weight_each : (which : Tag → Bool) (f : Tag × ℕ → List Ace) (e : Tag × ℕ) (es : List (Tag × ℕ))
    → weight (each which f (e ∷ es)) ≡ cond (which e.0) (weight (f e)) 0 + weight (each which f es)
weight_each which f e es =
    elim (which e.0) as
    (λ t. weight (flat_map f (cond t (e ∷ filter (λ x. which x.0) es) (filter (λ x. which x.0) es)))
    ≡ cond t (weight (f e)) 0 + weight (each which f es)) [
      | true ↦ weight-append (f e) (each which f es)
      | false ↦ omega arith
    ]

-- the ACEs of an entry weigh together, over the four parts of the list, what the entry sum_by-cost
entry_cost : (E : Entries) (l : Tag) (n : ℕ) → n < 8
    → cond (is_user_tag l) (weight (decide_of E (l, n))) 0 + cond (is_group_tag l) (weight (allow_of E (l, n))) 0 + cond
    (is_group_tag l) (weight (deny_of E (l, n))) 0 + cond (is_other_tag l) (weight (allow_of E (l, n))) 0 ≡ cost_of l n
entry_cost E user_obj n lt = omega (
  arith,
  both_weigh E (user_obj, n) lt,
  weight-append (allow_of E (user_obj, n))
      (deny_of E (user_obj, n)),
)
entry_cost E (user id) n lt = omega (
  arith,
  both_weigh E (user id, n) lt,
  weight-append (allow_of E (user id, n))
      (deny_of E (user id, n)),
)
entry_cost E group_obj n lt = omega (arith, both_weigh E (group_obj, n) lt)
entry_cost E (group id) n lt = omega (arith, both_weigh E (group id, n) lt)
entry_cost E mask n lt = refl
entry_cost E other n lt = omega (arith, weight_ace Allow other n)

-- the number of mask bits of an entry, over all its ACEs
abbrev pub cost : Tag × ℕ → ℕ
cost e = cost_of e.0 e.1

-- the four parts of the list weigh together what the entries cost
total : (E : Entries) (es : List (Tag × ℕ)) → AllByRecursion IsEntry es
    → weight (each is_user_tag (decide_of E) es) + weight (each is_group_tag (allow_of E) es) + weight
    (each is_group_tag (deny_of E) es) + weight (each is_other_tag (allow_of E) es) ≡ sum_by cost es
total E [] all = refl
total E (e ∷ es) all = omega (
  arith,
  weight_each is_user_tag (decide_of E) e es,
  weight_each is_group_tag (allow_of E) e es,
  weight_each is_group_tag (deny_of E) e es,
  weight_each is_other_tag (allow_of E) e es,
  entry_cost E e.0 e.1 all.0.1,
  total E es all.1,
  sum_by-cons cost e es,
)

-- the weight of the list is the sum of the sum_by-cost of the entries
weight_bridge : (E : Entries) → AllByRecursion IsEntry (fin.entries E) → weight (bridge_list E) ≡ sum_by cost
    (fin.entries E)
unfolding bridge_list
weight_bridge E all =
    let es = fin.entries E in
    let D = each is_user_tag (decide_of E) es in
    let A = each is_group_tag (allow_of E) es in
    let N = each is_group_tag (deny_of E) es in
    let O = each is_other_tag (allow_of E) es in
    omega (arith, weight-append (D ++ A ++ N) O, weight-append (D ++ A) N, weight-append D A, total E es all)

-- the list is accepted if and only if its weight is within the limit
accepted_by_weight : (E : Entries) → AllByRecursion IsEntry (fin.entries E)
    → (sum_by cost (fin.entries E) ≤ most_weight) ↔ IsAccepted full (bridge_list E)
accepted_by_weight E all = (
  λ le. record {
    count = omega (arith, length_within E all, weight_bridge E all, le);
    weight =
        omega (arith, weight_bridge E all, le);
    each = aces_valid E all;
  },
  λ ok. omega (arith, weight_bridge E all, ok.weight),
)

-- ---- entry by entry

-- one more entry adds its cost
cost_more : (es : List Entry) (i : ℕ) (e : Entry) → i < length es → e ≡ get_or es i e
    → sum_by (λ (x : Entry). cost (pair_of x)) (take (i + 1) es) ≡ sum_by (λ (x : Entry). cost (pair_of x)) (take i es)
    + cost (pair_of e)
cost_more es i e lt read = sum_by_more (λ (x : Entry). cost (pair_of x)) es i e lt
    ∙ ap (λ (x : Entry). sum_by (λ (y : Entry). cost (pair_of y)) (take i es) + cost (pair_of x)) (sym read)

-- the cost of some entries is the same for the pairs of the specification and for the entries of the code
sum_by-cost : (es : List Entry) → sum_by cost (pairs es) ≡ sum_by (λ (x : Entry). cost (pair_of x)) es
sum_by-cost [] = refl
sum_by-cost (e ∷ es) =
    omega (
      arith,
      sum_by-cons cost (pair_of e) (pairs es),
      sum_by-cons (λ (x : Entry). cost (pair_of x)) e es,
      sum_by-cost es,
    )

-- if the entries so far cost too much, the list is not accepted
pub too_heavy : (E : Entries) (es : List Entry) (i : ℕ) (e : Entry) (sum : ℕ) → All IsEntry (fin.entries E)
    → pairs es ≡ fin.entries E → i < length es → e ≡ get_or es i e
    → sum ≡ sum_by (λ (x : Entry). cost (pair_of x)) (take i es) → most_weight < sum + cost (pair_of e)
    → IsTrue false ↔ IsAccepted full (bridge_list E)
too_heavy E es i e sum within is lt read so_far big =
    let all = recursion_from_All IsEntry (fin.entries E) within in
    let whole : sum_by cost (fin.entries E) ≡ sum_by (λ (x : Entry). cost (pair_of x)) es = ap (sum_by cost) (sym is)
    ∙ sum_by-cost es in (
      λ f. absurd (true≢false (sym f)),
      λ ok.
          let le = (accepted_by_weight E all).1 ok in
          absurd
          (omega (
            arith,
            le,
            whole,
            cost_more es i e lt read,
            sum_by-take-le (λ (x : Entry). cost (pair_of x)) es
                (i + 1),
          )),
    )

-- if all entries cost no more than the limit, the list is accepted
pub light_enough : (E : Entries) (es : List Entry) (i : ℕ) (sum : ℕ) → All IsEntry (fin.entries E)
    → pairs es ≡ fin.entries E → length es ≤ i
    → sum ≡ sum_by (λ (x : Entry). cost (pair_of x)) (take i es) → sum ≤ most_weight → IsTrue true ↔ IsAccepted full
    (bridge_list E)
light_enough E es i sum within is le so_far small =
    let all = recursion_from_All IsEntry (fin.entries E) within in
    let whole : sum_by cost (fin.entries E) ≡ sum = ap (sum_by cost) (sym is) ∙ sum_by-cost es
    ∙ ap (sum_by (λ (x : Entry). cost (pair_of x))) (sym (take_all i es le)) ∙ sym so_far in
    (λ _. (accepted_by_weight E all).0 (omega (arith, whole)), λ _. refl)
