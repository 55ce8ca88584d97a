-- The list that grants some rights where another list grants one right.
use Rattle.std.specs.Prelude.{IsNone}
use Rattle.acl_normal.proofs.Common.{Ace, AllByRecursion, Bool, Column, HasName, HasNames, IfSome, IsSituation, List, None, Option, Principal, Situation, [], ace_key, all_rights, and_from, and_parts, ap, append-nil, bits_from_mask, column, counts, false, false≢true, has_bit, if◌then◌else◌, is_allow, is_among, is_mentioning, longest, map, matches, mentioned, mentioned_in, no_bit, principal_of, refl, same_answers, small_sets, small_situation, Some, subst, sym, takes_part, true, two_lists, verdict, ℕ, ◌&&◌, ◌++◌, ◌+◌, ◌↔◌, ◌∙◌, ◌∷◌, ◌≡◌, IsMask}
use Rattle.acl_normal.proofs.Each.{all_append, all_right, all_weaker}
use Rattle.acl_eval.proofs.Same.{at_most_by_bits}
use Rattle.acl_eval.specs.Grant.{GrantsAtMost, grants_bit}
use Rattle.acl_normal.proofs.Exports.{all_in, among_mentioned, below_one, mentioned_rising, rising_in, rising_same}
use Rattle.acl_normal.proofs.unique.Columns.{column_has, column_lacks}
use Rattle.acl_normal.specs.Difference.{situation_of}
use Rattle.acl_normal.specs.Excess.{GrantsNoMore, IsExcess, IsFirstExcess}
use Rattle.acl_contain.specs.Implied.{Implies, ImpliesIn, IsFirstMissing, IsImplication}
use Rattle.acl_normal.specs.SmallSets.{TellsApart, small_situations}
use Rattle.acl_contain.specs.internal.RightReplaced.{all_replaced, replaced}
use Rattle.acl_normal.specs.internal.comparison.TwoLists.{IsSearched}
use Rattle.acl_normal.specs.declared.comparison.Difference.{Difference}
use Rattle.acl_normal.specs.declared.comparison.direction.Direction.TheVariants.{Over}

-- what holds of each ACE whatever its mask holds of each ACE with its mask replaced
each_replaced : (P : Ace → Type 0) (right others : ℕ) (xs : List Ace) → ((a : Ace) → P a → P (replaced right others a))
    → AllByRecursion P xs → AllByRecursion P (all_replaced right others xs)
each_replaced P right others [] g h = tt
each_replaced P right others (a ∷ xs) g h = (g a h.0, each_replaced P right others xs g h.1)

-- the list has the names of the other
pub replaced_named : (right others : ℕ) (xs : List Ace) → HasNames xs → HasNames (all_replaced right others xs)
replaced_named right others xs h = each_replaced (λ a. HasName (principal_of a)) right others xs (λ a n. n) h

-- both lists mention the principals of the one
mentioned_once : (right others : ℕ) (xs : List Ace) → mentioned (all_replaced right others xs) xs ≡ mentioned xs []
mentioned_once right others xs = rising_same both own (mentioned_rising ys xs) (rising_in xs)
    (λ s. same_answers (is_among s both) (is_among s own)
    (λ i. below_one (λ p. is_among p own ≡ true) both s (all_in (λ p. is_among p own ≡ true) (ys ++ xs) within) i)
    (λ i. below_one (λ p. is_among p both ≡ true) own s (all_in (λ p. is_among p both ≡ true) xs over) i))
    ∙ ap mentioned_in (sym (append-nil xs))
  where
    ys : List Ace
    ys = all_replaced right others xs

    both : List Principal
    both = mentioned ys xs

    own : List Principal
    own = mentioned_in xs

    within : AllByRecursion (λ a. is_mentioning a ≡ true → is_among (principal_of a) own ≡ true) (ys ++ xs)
    within = all_append (λ a. is_mentioning a ≡ true → is_among (principal_of a) own ≡ true) ys xs
        (each_replaced (λ a. is_mentioning a ≡ true → is_among (principal_of a) own ≡ true) right others xs
        (λ a h. h) (among_mentioned xs)) (among_mentioned xs)

    over : AllByRecursion (λ a. is_mentioning a ≡ true → is_among (principal_of a) both ≡ true) xs
    over = all_right (λ a. is_mentioning a ≡ true → is_among (principal_of a) both ≡ true) ys xs
        (among_mentioned (ys ++ xs))

-- so both have the small situations of the one
situations_once : (right others : ℕ) (xs : List Ace)
    → small_situations (all_replaced right others xs) xs ≡ small_situations xs []
situations_once right others xs =
    ap (λ ps. map (small_situation (longest ps + 1)) (small_sets ps)) (mentioned_once right others xs)

-- on each of the others the list has the column of the right, and no other column
column_replaced : (right others : ℕ) (xs : List Ace) (b : ℕ)
    → column (all_replaced right others xs) b ≡ (if has_bit others b then column xs right else [])
column_replaced right others [] b = none (has_bit others b)
  where
    none : (t : Bool) → [] ≡ (if t then column [] right else [])
    none true = refl
    none false = refl
column_replaced right others (a ∷ xs) b =
    go (has_bit others b) (has_bit a.mask right) (takes_part a) refl refl refl (column_replaced right others xs b)
  where
    ys : List Ace
    ys = all_replaced right others xs

    on_others : {c d : Column} → c ≡ d → (if has_bit others b then c else []) ≡ (if has_bit others b then d else [])
    on_others e = ap (λ v. if has_bit others b then v else []) e

    go : (o h t : Bool) → has_bit others b ≡ o → has_bit a.mask right ≡ h → takes_part a ≡ t
        → column ys b ≡ (if has_bit others b then column xs right else [])
        → column (replaced right others a ∷ ys) b ≡ (if has_bit others b then column (a ∷ xs) right else [])
    go o false t p q r ih =
        let mask : (replaced right others a).mask ≡ 0 = rw q refl in
        let none : counts b (replaced right others a) ≡ false =
        ap (λ v. has_bit v b && takes_part a) mask ∙ ap (λ v. v && takes_part a) (no_bit b) in
        column_lacks b (replaced right others a) ys none ∙ ih
        ∙ sym (on_others (column_lacks right a xs (ap (λ v. v && takes_part a) q)))
    go false true t p q r ih =
        let mask : (replaced right others a).mask ≡ others = rw q refl in
        let none : counts b (replaced right others a) ≡ false =
        ap (λ v. has_bit v b && takes_part a) mask ∙ ap (λ v. v && takes_part a) p in
        column_lacks b (replaced right others a) ys none ∙ ih ∙ rw p refl
    go true true false p q r ih =
        let mask : (replaced right others a).mask ≡ others = rw q refl in
        let none : counts b (replaced right others a) ≡ false =
        ap (λ v. has_bit v b && takes_part a) mask ∙ ap (λ v. v && takes_part a) p ∙ r in
        column_lacks b (replaced right others a) ys none ∙ ih
        ∙ sym (on_others (column_lacks right a xs (ap (λ v. v && takes_part a) q ∙ r)))
    go true true true p q r ih =
        let mask : (replaced right others a).mask ≡ others = rw q refl in
        let some : counts b (replaced right others a) ≡ true =
        ap (λ v. has_bit v b && takes_part a) mask ∙ ap (λ v. v && takes_part a) p ∙ r in
        column_has b (replaced right others a) ys some ∙ ap (λ c. ace_key a ∷ c) ih ∙ rw p refl
        ∙ sym (on_others (column_has right a xs (ap (λ v. v && takes_part a) q ∙ r)))

-- the list grants each of the others where the other list grants the right, and nothing else
granted_replaced : (right others : ℕ) (xs : List Ace) (s : Situation) (b : ℕ)
    → grants_bit (all_replaced right others xs) s b ≡ (has_bit others b && grants_bit xs s right)
granted_replaced right others xs s b =
    ap (λ c. is_allow (verdict (matches s) c)) (column_replaced right others xs b) ∙ go (has_bit others b)
  where
    go : (t : Bool) → is_allow (verdict (matches s) (if t then column xs right else [])) ≡ (t && grants_bit xs s right)
    go true = refl
    go false = refl

-- it is within the other list if and only if the right implies the others
within_if_implied : (right others : ℕ) (xs : List Ace) → IsMask others
    → GrantsAtMost all_rights (all_replaced right others xs) xs ↔ Implies xs right others
within_if_implied right others xs is = (
  λ most s valid granted b has. (at_most_by_bits all_rights (all_replaced right others xs) xs).0 most s valid b
      (bits_from_mask others b is has)
      (granted_replaced right others xs s b ∙ and_from (has_bit others b) (grants_bit xs s right) has granted),
  λ implied. (at_most_by_bits all_rights (all_replaced right others xs) xs).1 (λ s valid b has granted.
      let parts = and_parts (has_bit others b) (grants_bit xs s right)
      (sym (granted_replaced right others xs s b) ∙ granted) in
      implied s valid parts.1 b parts.0),
)

-- where it grants no more than the other list, the right implies the others
implied_in : (right others : ℕ) (xs : List Ace) (s : Situation) → IsMask others
    → GrantsNoMore (all_replaced right others xs) xs s → ImpliesIn xs right others s
implied_in right others xs s is no_more granted b has = no_more b (bits_from_mask others b is has)
    (granted_replaced right others xs s b ∙ and_from (has_bit others b) (grants_bit xs s right) has granted)

-- the first excess of the list is the first situation in which one of the others is missing
first_missing : (right others : ℕ) (xs : List Ace) (s : Situation) (mask : ℕ) → IsMask others
    → IsFirstExcess (all_replaced right others xs) xs s mask → IsFirstMissing xs right others s mask
first_missing right others xs s mask is e =
    let parts = and_parts (has_bit others e.right.bit) (grants_bit xs s right)
    (sym (granted_replaced right others xs s e.right.bit) ∙ e.right.granted) in
    record {
      before = e.before;
      after = e.after;
      place = sym (situations_once right others xs) ∙ e.place;
      implied_before = all_weaker (GrantsNoMore (all_replaced right others xs) xs) (ImpliesIn xs right others) e.before
          (λ t h. implied_in right others xs t is h) e.no_more_before;
      missing = record {
        bit = e.right.bit;
        one_bit = e.right.one_bit;
        of_others = parts.0;
        granted = parts.1;
        denied = e.right.denied;
        lowest = λ b l has. e.right.lowest b l (bits_from_mask others b is has)
            (granted_replaced right others xs s b ∙ and_from (has_bit others b) (grants_bit xs s right) has parts.1);
      };
    }

-- the same situation and right, which the list denies
abbrev pub DeniesAs : Difference → Difference → Type 0
DeniesAs d e = (situation_of d ≡ situation_of e) × (d.bit ≡ e.bit) × (d.first_grants ≡ false)

-- the excess of the list is what is missing
implied_of : (right others : ℕ) (xs : List Ace) (found missing : Option Difference) → IsMask others
    → IsExcess (all_replaced right others xs) xs found → IsNone missing ↔ IsNone found
    → IfSome missing (λ d. IfSome found (DeniesAs d)) → IsImplication xs right others missing
implied_of right others xs found missing is h none denies = record {
  implied = (
    λ n. (within_if_implied right others xs is).0 (h.contained.0 (none.0 n)),
    λ i. none.1 (h.contained.1 ((within_if_implied right others xs is).1 i)),
  );
  first = first found missing none denies h.first;
  requester = named found missing none denies h.requester;
  denied = denied found missing none denies;
}
  where
    first : (f m : Option Difference) → IsNone m ↔ IsNone f → IfSome m (λ d. IfSome f (DeniesAs d))
        → IfSome f (λ d. IsFirstExcess (all_replaced right others xs) xs (situation_of d) d.bit.bits)
        → IfSome m (λ d. IsFirstMissing xs right others (situation_of d) d.bit.bits)
    first f None n g e = tt
    first None (Some d) n g e = absurd (false≢true (sym (n.1 refl)))
    first (Some f) (Some d) n g e = subst (λ s. IsFirstMissing xs right others s d.bit.bits) (sym g.0)
        (subst (λ m. IsFirstMissing xs right others (situation_of f) m.bits) (sym g.1)
        (first_missing right others xs (situation_of f) f.bit.bits is e))

    named : (f m : Option Difference) → IsNone m ↔ IsNone f → IfSome m (λ d. IfSome f (DeniesAs d))
        → IfSome f (λ d. TellsApart (all_replaced right others xs) xs (situation_of d) d.bit.bits true)
        → IfSome m (λ d. IsSituation (situation_of d))
    named f None n g e = tt
    named None (Some d) n g e = absurd (false≢true (sym (n.1 refl)))
    named (Some f) (Some d) n g e = subst IsSituation (sym g.0) e.valid

    denied : (f m : Option Difference) → IsNone m ↔ IsNone f → IfSome m (λ d. IfSome f (DeniesAs d))
        → IfSome m (λ d. d.first_grants ≡ false)
    denied f None n g = tt
    denied None (Some d) n g = absurd (false≢true (sym (n.1 refl)))
    denied (Some f) (Some d) n g = g.2

-- the search for what the list grants over the other one is the search for what is missing
pub implication_found : {right others : ℕ} {list xs ys : List Ace} {found missing : Option Difference} → IsMask others
    → ys ≡ all_replaced right others list → xs ≡ list → IsSearched (two_lists Over ys xs) found
    → IsNone missing ↔ IsNone found → IfSome missing (λ d. IfSome found (DeniesAs d))
    → IsImplication list right others missing
implication_found {right} {others} {list} {xs} {ys} {found} {missing} is first second h =
    implied_of right others list found missing is
    (subst (λ v. IsExcess v list found) first (subst (λ v. IsExcess ys v found) second h))
