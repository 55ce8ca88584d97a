-- What the bytes of a prepared list decide, ACE by ACE.
use Rattle.std.proofs.Common.{◌≡◌, ℕ, cond, arith, Bool, true, false, List, [], ◌∷◌, ◌++◌, ◌<◌, refl, sym, ap, ◌∙◌, length, length-append}
use Rattle.std.proofs.lemmas.Bool.{eqb-true, false≢true}
use Rattle.std.proofs.Math.Bool.{and-false}
use Rattle.std.specs.Prelude.{◌&&◌, ◌||◌, ◌==◌, not, filter, if◌then◌else◌}
use Rattle.std.specs.List.{AllByRecursion, flat_map, list_any}
use Rattle.acl_perm.specs.Bits.{has_bit}
use Rattle.acl_perm.specs.Profile.{full}
use Rattle.acl_perm.specs.Situation.{Situation, matches}
use Rattle.acl_nfs4.specs.Ace.{Ace}
use Rattle.acl_nfs4.specs.Spelling.{IsAce}
use Rattle.acl_nfs4.specs.Who.{principal_of}
use Rattle.acl_eval.specs.Column.{takes_part}
use Rattle.acl_eval.specs.Deciding.{decides}
use Rattle.acl_eval.specs.Grant.{grants_bit, is_allow}
use Rattle.acl_eval.specs.internal.EachRightBody.{granted_in, is_undecided, left_in}
use Rattle.acl_prepared.specs.internal.PreparedBody.{AreParts, DecidesAs}
use Rattle.acl_eval.specs.declared.each_right.GrantedSoFar.{GrantedSoFar}
use Rattle.acl_eval.proofs.Columns.{bit_at_first}

-- ---- ACEs that take no part

-- an ACE that takes no part decides nothing
none_decides : (a : Ace) (s : Situation) (bit : ℕ) → takes_part a ≡ false → decides s bit a ≡ false
none_decides a s bit e = ap (λ (t : Bool). has_bit a.mask bit && (t && matches s (principal_of a))) e
    ∙ and-false (has_bit a.mask bit)

-- the ACEs that take part grant what all grant
parts_granted : (list : List Ace) (s : Situation) (bit : ℕ)
    → grants_bit (filter takes_part list) s bit ≡ grants_bit list s bit
parts_granted [] s bit = refl
parts_granted (a ∷ list) s bit = by (parts_granted list s bit) (takes_part a) refl
  where
    parts : List Ace
    parts = filter takes_part list

    by : grants_bit parts s bit ≡ grants_bit list s bit → (t : Bool) → takes_part a ≡ t
        → grants_bit (filter takes_part (a ∷ list)) s bit ≡ grants_bit (a ∷ list) s bit
    by rest true e = ap (λ (t : Bool). grants_bit (cond t (a ∷ parts) parts) s bit) e
        ∙ bit_at_first a parts s bit
        ∙ ap (λ (b : Bool). if decides s bit a then is_allow a.kind else b) rest
        ∙ sym (bit_at_first a list s bit)
    by rest false e = ap (λ (t : Bool). grants_bit (cond t (a ∷ parts) parts) s bit) e
        ∙ rest
        ∙ sym (ap (λ (t : Bool). if t then is_allow a.kind else grants_bit list s bit) (none_decides a s bit e))
        ∙ sym (bit_at_first a list s bit)

-- some ACE that takes part decides if and only if some ACE decides
any_part : (list : List Ace) (s : Situation) (bit : ℕ)
    → list_any (decides s bit) (filter takes_part list) ≡ list_any (decides s bit) list
any_part [] s bit = refl
any_part (a ∷ list) s bit = by (any_part list s bit) (takes_part a) refl
  where
    parts : List Ace
    parts = filter takes_part list

    by : list_any (decides s bit) parts ≡ list_any (decides s bit) list → (t : Bool) → takes_part a ≡ t
        → list_any (decides s bit) (filter takes_part (a ∷ list)) ≡ list_any (decides s bit) (a ∷ list)
    by rest true e = ap (λ (t : Bool). list_any (decides s bit) (cond t (a ∷ parts) parts)) e
        ∙ ap (λ (b : Bool). decides s bit a || b) rest
    by rest false e = ap (λ (t : Bool). list_any (decides s bit) (cond t (a ∷ parts) parts)) e
        ∙ rest
        ∙ sym (ap (λ (t : Bool). t || list_any (decides s bit) list) (none_decides a s bit e))

-- the valid ACEs that take part
pub all_parts : (list : List Ace) → AllByRecursion (IsAce full) list → AreParts (filter takes_part list)
all_parts [] each = tt
all_parts (a ∷ list) each = by (all_parts list each.1) (takes_part a) refl
  where
    by : AreParts (filter takes_part list) → (t : Bool) → takes_part a ≡ t → AreParts (filter takes_part (a ∷ list))
    by rest true e = rw e (record { valid = each.0; part = e }, rest)
    by rest false e = rw e rest

-- the ACEs that take part decide what all decide
pub decided_list : (list : List Ace) (s t : Situation) (mask : ℕ) (so_far : GrantedSoFar) → s ≡ t
    → DecidesAs s mask (filter takes_part list) so_far → DecidesAs t mask list so_far
decided_list list s t mask so_far same d = record {
  granted = λ bit. d.granted bit
      ∙ ap (λ (b : Bool). has_bit mask bit && b)
      (ap (λ (u : Situation). grants_bit (filter takes_part list) u bit) same ∙ parts_granted list t bit);
  left = λ bit. d.left bit
      ∙ ap (λ (b : Bool). has_bit mask bit && b)
      (ap (λ (u : Situation). is_undecided u bit (filter takes_part list)) same ∙ ap not (any_part list t bit));
}

-- ---- the loop

-- no bytes are those of an ACE
no_bytes : (bytes : List ℕ) → bytes ≡ [] → (length bytes == 0) ≡ false → ⊥
no_bytes bytes e some = false≢true (sym some ∙ ap (λ (b : List ℕ). length b == 0) e)

-- nothing is granted by no ACE
granted_alone : (g l : Bool) → g ≡ (g || (l && false))
granted_alone true l = refl
granted_alone false true = refl
granted_alone false false = refl

-- what is left by no ACE is left
left_alone : (l : Bool) → l ≡ (l && true)
left_alone true = refl
left_alone false = refl

-- the bytes of each ACE, and which ACEs have such bytes
module _ (spelled : Ace → List ℕ) (Part : Ace → Type 0) where
  -- bytes that are left begin with those of an ACE
  pub some_first : (rest : List Ace) (bytes : List ℕ) → (length bytes == 0) ≡ false → AllByRecursion Part rest
      → bytes ≡ flat_map spelled rest → ((a : Ace) (more : List ℕ) → Part a → bytes ≡ spelled a ++ more → ⊥) → ⊥
  some_first [] bytes some parts e none = no_bytes bytes e some
  some_first (a ∷ rest) bytes some parts e none = none a (flat_map spelled rest) parts.0 e

  -- what is known after the next ACE
  pub one_more : (IsRead : Ace → Type 0) (s : Situation) (granted left : ℕ → Bool) (rest : List Ace)
      (bytes after : List ℕ) (so_far new : GrantedSoFar)
      → (length bytes == 0) ≡ false → AllByRecursion Part rest → bytes ≡ flat_map spelled rest
      → ((a : Ace) (more : List ℕ) → Part a → bytes ≡ spelled a ++ more → (true ≡ true) × (IsRead a × (after ≡ more)))
      → ((a : Ace) → Part a → IsRead a → (list : List Ace) (bit : ℕ)
      → granted_in s new list bit ≡ granted_in s so_far (a ∷ list) bit)
      → ((a : Ace) → Part a → IsRead a → (list : List Ace) (bit : ℕ)
      → left_in s new list bit ≡ left_in s so_far (a ∷ list) bit)
      → ((bit : ℕ) → granted_in s so_far rest bit ≡ granted bit)
      → ((bit : ℕ) → left_in s so_far rest bit ≡ left bit)
      → (more : List Ace) × AllByRecursion Part more × (after ≡ flat_map spelled more)
      × ((bit : ℕ) → granted_in s new more bit ≡ granted bit) × ((bit : ℕ) → left_in s new more bit ≡ left bit)
  one_more IsRead s granted left [] bytes after so_far new some parts e read g l old others =
      absurd (no_bytes bytes e some)
  one_more IsRead s granted left (a ∷ rest) bytes after so_far new some parts e read g l old others =
      let is = read a (flat_map spelled rest) parts.0 e in (
        rest,
        parts.1,
        is.1.1,
        λ bit. g a parts.0 is.1.0 rest bit ∙ old bit,
        λ bit. l a parts.0 is.1.0 rest bit ∙ others bit,
      )

  -- at the end, what is known is what the whole list decides, if no ACE has no bytes
  pub all_read : (s : Situation) (mask : ℕ) (list rest : List Ace) (bytes : List ℕ) (so_far : GrantedSoFar)
      → ((a : Ace) → 0 < length (spelled a)) → (length bytes == 0) ≡ true → bytes ≡ flat_map spelled rest
      → ((bit : ℕ) → granted_in s so_far rest bit ≡ (has_bit mask bit && grants_bit list s bit))
      → ((bit : ℕ) → left_in s so_far rest bit ≡ (has_bit mask bit && is_undecided s bit list))
      → DecidesAs s mask list so_far
  all_read s mask list [] bytes so_far sized none e g l = record {
    granted = λ bit. granted_alone (has_bit so_far.granted.bits bit) (has_bit so_far.left.bits bit) ∙ g bit;
    left = λ bit. left_alone (has_bit so_far.left.bits bit) ∙ l bit;
  }
  all_read s mask list (a ∷ rest) bytes so_far sized none e g l =
      absurd (omega (
        arith,
        eqb-true (length bytes) 0 none,
        ap length e,
        sized a,
        length-append (spelled a) (flat_map spelled rest),
      ))
