-- Ids that no column and no entry has.
use Rattle.std.proofs.Common.{◌≡◌, ◌≤◌, ◌<◌, ◌+◌, ℕ, Bool, true, List, [], ◌∷◌, ◌++◌, refl, sym, ap, subst, ◌∙◌, arith, inl, inr, drop, get_or, length}
use Rattle.std.proofs.lemmas.Bool.{eq-eqb, true≢false}
use Rattle.std.proofs.lemmas.List.{at_drop_more, length-map, map-append}
use Rattle.std.proofs.lemmas.Bool.{cases_lt}
use Rattle.std.specs.Prelude.{◌==◌, ◌||◌, map}
use Rattle.std.specs.List.{AllByRecursion}
use Rattle.acl_perm.proofs.Bools.{or_true_right}
use Rattle.acl_posix.specs.Check.{ids, is_member}
use Rattle.acl_posix.specs.Tag.{Tag, qualifier}
use Rattle.acl_posix.specs.declared.id.Id.{Id}
use Rattle.acl_to_posix.specs.internal.LossBody.{entry_numbers}
use Rattle.acl_to_posix.proofs.no_greatest.FreeIds.{free_below}

-- if all numbers below a bound are members of a list, the list is as long as the bound
pub below_length : (xs : List ℕ) (k : ℕ) → ((n : ℕ) → n < k → is_member n xs ≡ true) → k ≤ length xs
below_length xs k all = elim (cases_lt (length xs) k) [
  | inl short ↦
      let (n, below, lacking) = free_below k xs short in absurd (true≢false (sym (all n below) ∙ lacking))
  | inr long ↦ long
]

-- one more number below the next bound
pub one_more : (xs : List ℕ) (k : ℕ) → ((n : ℕ) → n < k → is_member n xs ≡ true) → is_member k xs ≡ true
    → (n : ℕ) → n < k + 1 → is_member n xs ≡ true
one_more xs k all here n below = elim (cases_lt n k) [
  | inl less ↦ all n less
  | inr more ↦ subst (λ (m : ℕ). is_member m xs ≡ true) (omega (arith, more, below)) here
]

-- the number of each entry is among more numbers than those of the entries
pub entries_named : (es : List (Tag × ℕ)) (used : List ℕ)
    → ((n : ℕ) → is_member n (entry_numbers es) ≡ true → is_member n used ≡ true)
    → AllByRecursion (λ entry. is_member (qualifier entry.0) used ≡ true) es
entries_named [] used more = tt
entries_named (e ∷ es) used more = (
  more (qualifier e.0) (ap (λ (b : Bool). b || is_member (qualifier e.0) (entry_numbers es))
      (eq-eqb (qualifier e.0) (qualifier e.0) refl)),
  entries_named es used
      (λ n h. more n (ap (λ (b : Bool). (qualifier e.0 == n) || b) h ∙ or_true_right (qualifier e.0 == n))),
)

-- ---- loops over keys and over entries

-- a fact about each element that is left, from one more element
pub all_more_left : {X Y : Type 0} (f : X → Y) (Q : Y → Type 0) (xs : List X) (i : ℕ) (x : X) → i < length xs
    → x ≡ get_or xs i x → Q (f x) → AllByRecursion Q (map f (drop (i + 1) xs)) → AllByRecursion Q (map f (drop i xs))
all_more_left f Q xs i x lt is q rest =
    subst (λ ys. AllByRecursion Q (map f ys)) (sym (at_drop_more (λ ys. ys) xs i x lt))
    (subst (λ y. Q (f y)) is q, rest)

-- the same for ids
pub below_ids : (used : List Id) (k : ℕ) → ((n : ℕ) → n < k → is_member n (ids used) ≡ true) → k ≤ length used
below_ids used k all =
    let long = length-map used (λ (id : Id). id.value) in
    let le = below_length (ids used) k all in omega (arith, le, long)
