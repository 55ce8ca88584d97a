-- The small situations of two lists, and the first of them in which the lists differ (this library's own; what a list
-- grants is RFC 8881, section 6.2.1).
use Rattle.std.specs.Prelude.{◌≡◌, ◌≢◌, ◌↔◌, ℕ, ◌+◌, ◌<◌, ◌^◌, Bool, not, ◌&&◌, if◌then◌else◌, IsTrue, IsFalse, List, [], ◌∷◌, ◌++◌, map}
use Rattle.std.specs.List.{AllByRecursion}
use Rattle.std.specs.BTreeSet.{insert_key}
use Rattle.acl_eval.specs.Column.{takes_part}
use Rattle.acl_eval.specs.Grant.{Grant, SameGrants, grants_bit}
use Rattle.acl_nfs4.specs.Ace.{Ace}
use Rattle.acl_nfs4.specs.Who.{principal_of}
use Rattle.acl_normal.specs.Keys.{principal_eq}
use Rattle.acl_normal.specs.SmallSituations.{longest, small_situation}
use Rattle.acl_perm.specs.Bits.{all_rights, has_bit}
use Rattle.acl_perm.specs.Order.{principal_cmp}
use Rattle.acl_perm.specs.Overlap.{may_overlap}
use Rattle.acl_perm.specs.Principal.{Principal, everyone}
use Rattle.acl_perm.specs.Situation.{IsSituation, Situation}

-- the ACE takes part, and does not name everyone
abbrev pub is_mentioning : Ace → Bool
is_mentioning a = takes_part a && not (principal_eq (principal_of a) everyone)

-- the principals that a list mentions, whatever the masks of their ACEs, in order and each once
abbrev pub mentioned_in : List Ace → List Principal
mentioned_in [] = []
mentioned_in (a ∷ list) =
    if is_mentioning a then insert_key principal_cmp (mentioned_in list) (principal_of a) else mentioned_in list

-- the principals that two lists mention, in order and each once
abbrev pub mentioned : List Ace → List Ace → List Principal
mentioned list other = mentioned_in (list ++ other)

-- the sets of one of the principals
abbrev pub singles : List Principal → List (List Principal)
singles [] = []
singles (p ∷ rest) = (p ∷ []) ∷ singles rest

-- the sets of a principal and one of the others that may overlap with it
abbrev pub partners : Principal → List Principal → List (List Principal)
partners p [] = []
partners p (q ∷ rest) = if may_overlap p q then (p ∷ q ∷ []) ∷ partners p rest else partners p rest

-- the sets of two of the principals that may overlap, the lesser first: by the first, then by the second
abbrev pub principal_pairs : List Principal → List (List Principal)
principal_pairs [] = []
principal_pairs (p ∷ rest) = partners p rest ++ principal_pairs rest

-- the sets of none, one, or two of the principals that may overlap
abbrev pub small_sets : List Principal → List (List Principal)
small_sets whole = [] ∷ (singles whole ++ principal_pairs whole)

-- the number of bytes of the strange names: more than any name that the lists mention has
abbrev pub strange_length : List Ace → List Ace → ℕ
strange_length list other = longest (mentioned list other) + 1

-- the small situations of two lists, in their order
abbrev pub small_situations : List Ace → List Ace → List Situation
small_situations list other =
    map (small_situation (strange_length list other)) (small_sets (mentioned list other))

-- each right is granted by both lists or by neither
abbrev pub GrantAlike : List Ace → List Ace → Situation → Type 0
GrantAlike list other s = (bit : ℕ) → IsTrue (has_bit all_rights bit) → grants_bit list s bit ≡ grants_bit other s bit

-- the lowest right on which the lists differ in the situation, as a set of one right; and whether the first list grants
-- it there
pub record IsLowestUnlike (list other : List Ace) (s : Situation) (mask : ℕ) (first_grants : Bool) : Type 0 where
  pub bit : ℕ
  pub one_bit : mask ≡ 2 ^ bit
  pub of_rights : IsTrue (has_bit all_rights bit)
  pub differs : grants_bit list s bit ≢ grants_bit other s bit
  pub lowest : (b : ℕ) → b < bit → IsTrue (has_bit all_rights b) → grants_bit list s b ≡ grants_bit other s b
  pub first : first_grants ≡ grants_bit list s bit

-- the first small situation in which the lists differ, and the lowest right on which they differ there
pub record IsFirstDifference (list other : List Ace) (s : Situation) (mask : ℕ) (first_grants : Bool) : Type 0 where
  pub before : List Situation
  pub after : List Situation
  pub place : small_situations list other ≡ before ++ s ∷ after
  pub alike_before : AllByRecursion (GrantAlike list other) before
  pub right : IsLowestUnlike list other s mask first_grants

-- In a situation whose names are not empty, one list grants a request and the other denies it.
pub record TellsApart (list other : List Ace) (s : Situation) (request : ℕ) (first_grants : Bool) : Type 0 where
  pub valid : IsSituation s
  pub first : Grant list s request ↔ IsTrue first_grants
  pub second : Grant other s request ↔ IsFalse first_grants

-- If a test of two answers, each of one of two lists for a right, passes in each small situation of the lists, then it
-- passes in every situation.
abbrev pub AnswersSuffice : Type 0
AnswersSuffice = (test : Bool → Bool → Bool) (list other : List Ace) (bit other_bit : ℕ)
    → AllByRecursion (λ s. IsTrue (test (grants_bit list s bit) (grants_bit other s other_bit)))
    (small_situations list other)
    → (s : Situation) → IsTrue (test (grants_bit list s bit) (grants_bit other s other_bit))

-- lists that agree in each of their small situations grant the same
abbrev pub SmallSituationsSuffice : Type 0
SmallSituationsSuffice = (list other : List Ace)
    → AllByRecursion (GrantAlike list other) (small_situations list other) → SameGrants all_rights list other
