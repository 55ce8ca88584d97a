-- Two lists that differ in a direction in some situation, or in none.
use Rattle.std.specs.Prelude.{IsFalse}
use Rattle.acl_normal.proofs.Common.{Ace, all_rights, AllByRecursion, and_parts, ap, arith, Bool, false, has_bit, IsSituation, IsTrue, List, not, refl, SameGrants, Situation, subst, sym, true, ℕ, ◌++◌, ◌<◌, ◌^◌, ◌↔◌, ◌∙◌, ◌∷◌, ◌≡◌, only_bit, one_bit}
use Rattle.acl_normal.proofs.Each.{all_weaker}
use Rattle.acl_eval.proofs.Same.{at_most_by_bits, by_bits}
use Rattle.acl_eval.specs.Grant.{Grant, GrantsAtMost, grants_bit}
use Rattle.acl_normal.proofs.comparison.Directions.{both_differ, differ_moved, never_itself, not_over, same_answer}
use Rattle.acl_normal.specs.Excess.{GrantsNoMore, IsFirstExcess}
use Rattle.acl_normal.specs.SmallSets.{GrantAlike, IsFirstDifference, TellsApart, small_situations}
use Rattle.acl_normal.specs.internal.comparison.Directions.{differ_in}
use Rattle.acl_normal.specs.declared.comparison.direction.Direction.{Direction}
use Rattle.acl_normal.specs.declared.comparison.direction.Direction.TheVariants.{Either, Over}

-- in the situation, the answers of the lists differ for no right in the direction
abbrev pub AlikeIn : Direction → List Ace → List Ace → Situation → Type 0
AlikeIn way xs ys s = (b : ℕ) → has_bit all_rights b ≡ true
    → differ_in way (grants_bit xs s b) (grants_bit ys s b) ≡ false

-- in no situation do the answers of the lists differ in the direction
abbrev pub AlikeEverywhere : Direction → List Ace → List Ace → Type 0
AlikeEverywhere way xs ys = (s : Situation) → IsSituation s → AlikeIn way xs ys s

-- the first small situation in which the lists differ in the direction, and the lowest right on which they differ there
pub record FirstApart (way : Direction) (xs ys : List Ace) (s : Situation) (mask : ℕ) (first : Bool) : Type 0 where
  pub before : List Situation
  pub after : List Situation
  pub place : small_situations xs ys ≡ before ++ s ∷ after
  pub alike_before : AllByRecursion (AlikeIn way xs ys) before
  pub bit : ℕ
  pub one_bit : mask ≡ 2 ^ bit
  pub of_rights : has_bit all_rights bit ≡ true
  pub differs : differ_in way (grants_bit xs s bit) (grants_bit ys s bit) ≡ true
  pub lowest : (b : ℕ) → b < bit → has_bit all_rights b ≡ true
      → differ_in way (grants_bit xs s b) (grants_bit ys s b) ≡ false
  pub grants : first ≡ grants_bit xs s bit

-- lists that differ nowhere grant the same
pub same_everywhere : (xs ys : List Ace) → AlikeEverywhere Either xs ys → SameGrants all_rights xs ys
same_everywhere xs ys alike = (by_bits all_rights xs ys).1 (λ s valid b has. same_answer _ _ (alike s valid b has))

-- a list that is nowhere over another grants at most what the other does
pub at_most_everywhere : (xs ys : List Ace) → AlikeEverywhere Over xs ys → GrantsAtMost all_rights xs ys
at_most_everywhere xs ys alike =
    (at_most_by_bits all_rights xs ys).1 (λ s valid b has. not_over _ _ (alike s valid b has))

-- lists that grant the same differ nowhere
pub alike_if_same : (xs ys : List Ace) → SameGrants all_rights xs ys → AlikeEverywhere Either xs ys
alike_if_same xs ys same s valid b has =
    differ_moved Either ((by_bits all_rights xs ys).0 same s valid b has) refl (never_itself Either (grants_bit ys s b))

-- a list that grants at most what another does is nowhere over it
pub alike_if_at_most : (xs ys : List Ace) → GrantsAtMost all_rights xs ys → AlikeEverywhere Over xs ys
alike_if_at_most xs ys within s valid b has =
    never_over _ _ ((at_most_by_bits all_rights xs ys).0 within s valid b has)
  where
    never_over : (x y : Bool) → (x ≡ true → y ≡ true) → differ_in Over x y ≡ false
    never_over x y h = grind arith

-- lists that differ in a situation do not differ nowhere
pub not_everywhere : {way : Direction} {xs ys : List Ace} {s : Situation} {mask : ℕ} {first : Bool} → IsSituation s
    → FirstApart way xs ys s mask first → AlikeEverywhere way xs ys → ⊥
not_everywhere {way} {xs} {ys} {s} valid d alike = both_differ way _ _ d.differs (alike s valid d.bit d.of_rights)

-- the first difference in either direction is that of the comparison
pub is_first_difference : {xs ys : List Ace} {s : Situation} {mask : ℕ} {first : Bool}
    → FirstApart Either xs ys s mask first → IsFirstDifference xs ys s mask first
is_first_difference {xs} {ys} {s} d = record {
  before = d.before;
  after = d.after;
  place = d.place;
  alike_before = all_weaker (AlikeIn Either xs ys) (GrantAlike xs ys) d.before
      (λ t alike b has. same_answer _ _ (alike b has)) d.alike_before;
  right = record {
    bit = d.bit;
    one_bit = d.one_bit;
    of_rights = d.of_rights;
    differs = λ e. both_differ Either (grants_bit xs s d.bit) (grants_bit ys s d.bit) d.differs
        (differ_moved Either e refl (never_itself Either (grants_bit ys s d.bit)));
    lowest = λ b l has. same_answer _ _ (d.lowest b l has);
    first = d.grants;
  };
}

-- the first answer of a difference over the second list is yes, and the second is no
over_parts : {xs ys : List Ace} {s : Situation} {mask : ℕ} {first : Bool} (d : FirstApart Over xs ys s mask first)
    → (grants_bit xs s d.bit ≡ true) × (grants_bit ys s d.bit ≡ false)
over_parts {xs} {ys} {s} d = (
  (and_parts (grants_bit xs s d.bit) (not (grants_bit ys s d.bit)) d.differs).0,
  not_true (grants_bit ys s d.bit) (and_parts (grants_bit xs s d.bit) (not (grants_bit ys s d.bit)) d.differs).1,
)
  where
    not_true : (t : Bool) → not t ≡ true → t ≡ false
    not_true t k = grind arith

-- the first list grants the right on which it is over the second
pub over_grants : {xs ys : List Ace} {s : Situation} {mask : ℕ} {first : Bool} → FirstApart Over xs ys s mask first
    → first ≡ true
over_grants d = d.grants ∙ (over_parts d).0

-- the first difference in which the first list is over the second is the first excess
pub is_first_excess : {xs ys : List Ace} {s : Situation} {mask : ℕ} {first : Bool}
    → FirstApart Over xs ys s mask first → IsFirstExcess xs ys s mask
is_first_excess {xs} {ys} {s} d = record {
  before = d.before;
  after = d.after;
  place = d.place;
  no_more_before = all_weaker (AlikeIn Over xs ys) (GrantsNoMore xs ys) d.before
      (λ t alike b has. not_over _ _ (alike b has)) d.alike_before;
  right = record {
    bit = d.bit;
    one_bit = d.one_bit;
    of_rights = d.of_rights;
    granted = (over_parts d).0;
    denied = (over_parts d).1;
    lowest = λ b l has. not_over _ _ (d.lowest b l has);
  };
}

-- a request of one bit is granted if and only if the bit is
one_bit_granted : (xs : List Ace) (s : Situation) (bit mask : ℕ) (first : Bool) → mask ≡ 2 ^ bit
    → first ≡ grants_bit xs s bit → Grant xs s mask ↔ IsTrue first
one_bit_granted xs s bit mask first is h = (
  λ g. h ∙ g bit (subst (λ m. has_bit m bit ≡ true) (sym is) (one_bit bit)),
  λ e b i.
      let same : b ≡ bit = only_bit bit b (subst (λ m. has_bit m b ≡ true) is i) in
      subst (λ v. grants_bit xs s v ≡ true) (sym same) (sym h ∙ e),
)

-- the other of two answers that differ in a direction
other_answer : (way : Direction) (x y : Bool) → differ_in way x y ≡ true → not x ≡ y
other_answer way x y h = grind arith

-- what is not true is false
false_by_not : (x : Bool) → IsTrue (not x) ↔ IsFalse x
false_by_not true = (λ e. sym e, λ e. sym e)
false_by_not false = (λ _. refl, λ _. refl)

-- the lists answer the requester of a first difference differently
pub tells_apart : {way : Direction} {xs ys : List Ace} {s : Situation} {mask : ℕ} {first : Bool} → IsSituation s
    → FirstApart way xs ys s mask first → TellsApart xs ys s mask first
tells_apart {way} {xs} {ys} {s} {mask} {first} valid d =
    let second : not first ≡ grants_bit ys s d.bit = ap not d.grants ∙ other_answer way _ _ d.differs in
    let granted = one_bit_granted ys s d.bit mask (not first) d.one_bit second in
    let turned = false_by_not first in
    record {
      valid = valid;
      first = one_bit_granted xs s d.bit mask first d.one_bit d.grants;
      second = (λ g. turned.0 (granted.0 g), λ e. granted.1 (turned.1 e));
    }
