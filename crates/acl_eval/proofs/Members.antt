-- Whether a name is in a list: tests of references, and binary search among names in order.
use Rattle.std.proofs.Common.{◌≡◌, ℕ, ◌+◌, ◌<◌, ◌≤◌, Bool, true, false, List, [], ◌∷◌, refl, sym, ◌∙◌, ap, subst, arith, inl, inr, length}
use Rattle.std.proofs.lemmas.Bool.{cases_lt}
use Rattle.std.proofs.lemmas.List.{get_or-map, length-map}
use Rattle.std.proofs.lemmas.List.Elements.{All-map}
use Rattle.std.proofs.lemmas.List.Folds.{list_any_at, list_any_none}
use Rattle.std.proofs.lemmas.List.Sorted.{IsPermutation-map, list_any-IsPermutation, searchable_from_sorted}
use Rattle.std.specs.Prelude.{All, map, ◌↔◌, ◌||◌, Result, Ok, Err, Some, is_ok, ◌⊎◌, slice_index_or}
use Rattle.std.specs.Borrow.{Bor}
use Rattle.std.specs.Cmp.Lexicographic.{lists_agrees, nat_list_cmp_total, nat_list_eq_equiv, slice_cmp, slice_partial_cmp, texts_ties}
use Rattle.std.specs.List.{IsAllAdjacentAnswer, list_any}
use Rattle.std.specs.List.Sorted.{IsBinarySearchResult, IsPartitionPoint, IsPermutation, IsSearchInRange}
use Rattle.std.specs.Ordering.{is_eq, is_le, is_lt, is_some_and, nat_cmp, ordering_reverse, partial_le}
use Rattle.std.specs.Str.{bytes_eq}
use Rattle.std.specs.declared.cmp.Ordering.{Ordering}
use Rattle.std.specs.declared.cmp.Ordering.TheVariants.{Less, Equal, Greater}
use Rattle.acl_perm.proofs.Bools.{or_true_right}
use Rattle.acl_eval.specs.GroupSearch.{AreSameGroups}
use Rattle.acl_eval.specs.Situation.{groups_of, named_situation, owner_of, owning_group_of, situation, user_of}
use Rattle.acl_eval.specs.declared.situation.Object.{Object}
use Rattle.acl_eval.specs.declared.situation.Requester.{Requester}
use Rattle.acl_eval.specs.internal.GroupOrder.{AreInOrder}

-- if one test implies another, and some element passes the first, some element passes the second
pub any_implies : {X : Type 0} (p q : X → Bool) (xs : List X) → ((x : X) → p x ≡ true → q x ≡ true)
    → list_any p xs ≡ true → list_any q xs ≡ true
any_implies p q [] f h = absurd cc
any_implies p q (x ∷ xs) f h =
    elim (p x) as (λ t. p x ≡ t → (t || list_any p xs) ≡ true → (q x || list_any q xs) ≡ true) [
      | true ↦ λ is _. rw (f x is) refl
      | false ↦ λ is more. ap (λ (z : Bool). q x || z) (any_implies p q xs f more) ∙ or_true_right (q x)
    ] refl h

-- a test of the values behind references
pub any_now : (p : List ℕ → Bool) (xs : List (Bor (List ℕ)))
    → list_any p (map (λ g. g.now) xs) ≡ list_any (λ g. p g.now) xs
any_now p [] = refl
any_now p (x ∷ xs) = ap (λ (b : Bool). p x.now || b) (any_now p xs)

-- names in another order are the same names
pub same_names : (groups others : List (Bor (List ℕ))) → IsPermutation groups others
    → AreSameGroups (map (λ g. g.now) others) (map (λ g. g.now) groups)
same_names groups others moves name =
    sym (list_any-IsPermutation (bytes_eq name) (map (λ g. g.now) groups) (map (λ g. g.now) others)
    (IsPermutation-map (λ (g : Bor (List ℕ)). g.now) groups others moves))

-- no name is empty, for the references and for the values behind them
pub all_named : (names : List (Bor (List ℕ)))
    → All (λ g. 0 < length g.now) names ↔ All (λ g. 0 < length g) (map (λ g. g.now) names)
all_named names = (
  λ h. All-map (λ (g : List ℕ). 0 < length g) (λ (g : Bor (List ℕ)). g.now) names h,
  λ h k d lt. subst (λ (g : List ℕ). 0 < length g)
      (get_or-map (λ (g : Bor (List ℕ)). g.now) names k d d.now lt) (h k d.now (rw length-map lt)),
)

-- two names are equal if and only if neither comes first
pub eq_as_cmp : (name group : List ℕ) (o : Ordering) → slice_cmp nat_cmp group name ≡ o → bytes_eq name group ≡ is_eq o
eq_as_cmp name group o e = nat_list_eq_equiv.symm name group ∙ texts_ties group name ∙ ap is_eq e

-- a name that does not come after another is not above it
not_above : (name next : List ℕ)
    → is_some_and is_le (slice_partial_cmp (λ x y. Some (nat_cmp x y)) name next) ≡ true
    → is_lt (slice_cmp nat_cmp next name) ≡ false
not_above name next h = by (slice_cmp nat_cmp name next) refl
    (sym (ap (is_some_and is_le) (lists_agrees (λ x y. refl) name next)) ∙ h)
  where
    back : slice_cmp nat_cmp next name ≡ ordering_reverse (slice_cmp nat_cmp name next)
    back = nat_list_cmp_total.antisymm next name

    by : (o : Ordering) → slice_cmp nat_cmp name next ≡ o → is_le o ≡ true
        → is_lt (slice_cmp nat_cmp next name) ≡ false
    by Less e h = ap is_lt (back ∙ ap ordering_reverse e)
    by Equal e h = ap is_lt (back ∙ ap ordering_reverse e)
    by Greater e h = absurd cc

-- if no name comes after the next one, the names are in order
pub in_order : (names : List (Bor (List ℕ))) (r : Bool)
    → IsAllAdjacentAnswer (λ (x : Bor (List ℕ)) (y : Bor (List ℕ)) (b : Bool). partial_le
    (λ (x : Bor (List ℕ)) (y : Bor (List ℕ)). slice_partial_cmp (λ a b. Some (nat_cmp a b)) x.now y.now) x y ≡ b)
    names r
    → r ≡ true → AreInOrder names
in_order names true each e k d low lt =
    not_above (slice_index_or names k d).now (slice_index_or names (k + 1) d).now (each k d lt)
in_order names false each e k d low lt = absurd cc

-- a binary search among names in order finds a name if and only if it is there
pub halves : (names : List (Bor (List ℕ))) (name : Bor (List ℕ)) (r : Result ℕ ℕ) → AreInOrder names
    → IsSearchInRange r (length names)
    → IsBinarySearchResult (λ (y : Bor (List ℕ)). slice_cmp nat_cmp y.now name.now) names r
    → is_ok r ≡ list_any (λ g. bytes_eq name.now g.now) names
halves names name (Ok i) order lt at =
    sym (list_any_at (λ g. bytes_eq name.now g.now) names i name lt (eq_as_cmp name.now _ Equal (at name)))
halves names name (Err i) order lt at =
    sym (list_any_none (λ g. bytes_eq name.now g.now) names (λ k d l. apart k d l (cases_lt k i)))
  where
    split : IsPartitionPoint (λ (y : Bor (List ℕ)). slice_cmp nat_cmp y.now name.now ≡ Less)
        (λ (y : Bor (List ℕ)). slice_cmp nat_cmp y.now name.now ≡ Greater) names i
    split = at (searchable_from_sorted nat_list_cmp_total (λ (y : Bor (List ℕ)). y.now) names name.now order)

    apart : (k : ℕ) (d : Bor (List ℕ)) → k < length names → (k < i) ⊎ (i ≤ k)
        → bytes_eq name.now (slice_index_or names k d).now ≡ false
    apart k d l (inl low) = eq_as_cmp name.now _ Less (split.0 k d (omega arith) low)
    apart k d l (inr high) = eq_as_cmp name.now _ Greater (split.1 k d high l)

-- the situation of a requester depends on the user and the groups alone
pub same_situation : (object : Object) (one other : Requester) → user_of one ≡ user_of other
    → groups_of one ≡ groups_of other → situation object one ≡ situation object other
same_situation object one other user groups =
    ap (λ (name : List ℕ). named_situation (owner_of object) (owning_group_of object) name (groups_of one)) user
    ∙ ap (named_situation (owner_of object) (owning_group_of object) (user_of other)) groups
