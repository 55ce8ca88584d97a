use Rattle.acl_posix.proofs.Common.{All, ap, as_set, Bool, Entry, false, IsDistinct, IsNonDecreasing, IsPacked, IsPermutation, IsSorted, IsTrue, List, map, pairs, subst, sym, Tag, unpacked, ℕ, ◌↔◌, ◌∙◌, ◌≡◌}
use Rattle.acl_posix.proofs.sorting.ValidLists.{sorted_distinct}
use Rattle.acl_posix.proofs.packed.Packings.{distinct_rise, moved_distinct, as_set-moved}
use Rattle.acl_posix.proofs.sorted.SortedEntries.from_entries.Goals as goal

pub returns-then-is_in_order-clause-distinct : goal.returns-then-is_in_order-clause-distinct
returns-then-is_in_order-clause-distinct c =
    sorted_distinct (pairs c.args.entries.items) (subst (λ (es : List Entry). IsSorted (pairs es)) c.deref.ensures.value
    (c.is_in_order.ensures.0 c.if-is_in_order.true))

-- if the numbers do not rise, some tag occurs twice
some_repeat : (ps : List (Tag × ℕ)) {keys slice : List ℕ} {rises : Bool} → IsPermutation ps (map unpacked keys)
    → All IsPacked keys → IsNonDecreasing keys → slice ≡ keys → (IsTrue rises ↔ IsSorted (map unpacked slice))
    → rises ≡ false → IsDistinct ps → ⊥
some_repeat ps {keys} moves all up same says falls distinct =
    let sorted = subst (λ (ks : List ℕ). IsSorted (map unpacked ks)) (sym same)
    (distinct_rise ps keys distinct moves all up) in
    let wrong = sym falls ∙ says.1 sorted in cc

pub first_repeat-requires : goal.first_repeat-requires
first_repeat-requires c = λ distinct.
    let keys = c.in_ok-keys.ensures in
    some_repeat _ keys.permutation keys.packed keys.sorted c.deref-3.ensures.value c.rises.ensures
    c.if-not-rises.true (subst (λ (es : List Entry). IsDistinct (pairs es))
    (c.deref-then-not-rises.ensures.value ∙ sym c.deref-2.ensures.value) distinct)

pub returns-then-not-rises-clause-accepts : goal.returns-then-not-rises-clause-accepts
returns-then-not-rises-clause-accepts c = λ distinct.
    let keys = c.in_ok-keys.ensures in
    absurd (some_repeat _ keys.permutation keys.packed keys.sorted c.deref-3.ensures.value c.rises.ensures
    c.if-not-rises.true (subst (λ (es : List Entry). IsDistinct (pairs es)) (sym c.deref-2.ensures.value) distinct))

pub returns-clause-set : goal.returns-clause-set
returns-clause-set c =
    let sorted = subst (λ (keys : List ℕ). IsSorted (map unpacked keys)) c.deref-3.ensures.value
    (c.rises.ensures.0 c.if-not-rises.false) in
    ap as_set (c.in_ok-put_keys.ensures ∙ ap (λ (keys : List ℕ). map unpacked keys) c.deref-4.ensures.value)
    ∙ as_set-moved _ _ c.in_ok-keys.ensures.permutation sorted
    ∙ ap (λ (es : List Entry). as_set (pairs es)) c.deref-2.ensures.value

pub returns-clause-distinct : goal.returns-clause-distinct
returns-clause-distinct c =
    let sorted = subst (λ (keys : List ℕ). IsSorted (map unpacked keys)) c.deref-3.ensures.value
    (c.rises.ensures.0 c.if-not-rises.false) in
    subst (λ (es : List Entry). IsDistinct (pairs es)) c.deref-2.ensures.value
    (moved_distinct _ _ c.in_ok-keys.ensures.permutation sorted)
