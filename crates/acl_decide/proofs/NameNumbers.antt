-- The numbers of the names of a list.
use Rattle.std.proofs.Common.{◌≡◌, ℕ, zero, suc, ◌+◌, ◌<◌, Bool, true, false, List, [], ◌∷◌, ◌++◌, length, get_or, None, Some, Option, refl, sym, ap, subst, arith, ◌∙◌}
use Rattle.std.specs.BTreeMap.{BTreeMap, UpdatesBy, btree_map_len}
use Rattle.std.specs.Borrow.{Bor}
use Rattle.std.specs.Cmp.Lexicographic.{slice_cmp}
use Rattle.std.specs.List.{AllZip}
use Rattle.std.specs.Option.{option_map_or}
use Rattle.std.specs.Ordering.{nat_cmp}
use Rattle.std.specs.Str.{bytes_eq}
use Rattle.std.proofs.lemmas.Map.Text.{btree_map_updates_str}
use Rattle.std.proofs.lemmas.Option.{none-some}
use Rattle.std.proofs.lemmas.Slice.Zip.{AllZip-long}
use Rattle.acl_perm.proofs.Meetings.{bytes_eq_same, itself}
use Rattle.acl_nfs4.specs.declared.ace.AceRef.{AceRef}
use Rattle.acl_decide.specs.internal.OutNames.{HaveNameNumbers, HasNameNumber, IsFor, GivesNumberTo, IsUnknownNameIn, IsNameNumber, GivesNameNumber, name_number}
use Rattle.acl_decide.specs.declared.out_names.OutNames.{OutNames}

-- ---- one more number

-- a new name has the number that was given
pub marked : (old new : BTreeMap (Bor (List ℕ)) ℕ) (who : List ℕ) (number : ℕ)
    → UpdatesBy (λ x y. slice_cmp nat_cmp x.now y.now) (λ k. slice_cmp nat_cmp who k.now) old new (Some number)
    → name_number old who ≡ None → number ≡ btree_map_len old → btree_map_len new ≡ btree_map_len old + 1
    → GivesNumberTo old who number new
marked old new who number updates fresh last long = record {
  is = hit who (itself who);
  kept = λ other n h. kept other n h (bytes_eq who other) refl;
  numbered = λ numbered. record {
    below = λ other n h. below numbered other n h (bytes_eq who other) refl;
    apart = λ one other n h k. apart numbered one other n h k (bytes_eq who one) (bytes_eq who other) refl refl;
  };
}
  where
    hit : (other : List ℕ) → bytes_eq who other ≡ true → name_number new other ≡ Some number
    hit other e = btree_map_updates_str who old new (Some number) updates other ∙ rw e refl

    miss : (other : List ℕ) → bytes_eq who other ≡ false → name_number new other ≡ name_number old other
    miss other e = btree_map_updates_str who old new (Some number) updates other ∙ rw e refl

    kept : (other : List ℕ) (n : ℕ) → name_number old other ≡ Some n → (b : Bool) → bytes_eq who other ≡ b
        → name_number new other ≡ Some n
    kept other n h true e =
        absurd (none-some n (sym fresh ∙ (ap (name_number old) (bytes_eq_same who other e) ∙ h)))
    kept other n h false e = miss other e ∙ h

    same : (n : ℕ) (other : List ℕ) → name_number new other ≡ Some n → bytes_eq who other ≡ true → number ≡ n
    same n other h e = inside (sym (hit other e) ∙ h)
      where
        inside : Some number ≡ Some n → number ≡ n
        inside is = ap (λ (found : Option ℕ). option_map_or (λ k. k) found 0) is

    below : HaveNameNumbers old (btree_map_len old) → (other : List ℕ) (n : ℕ) → name_number new other ≡ Some n
        → (b : Bool) → bytes_eq who other ≡ b → n < btree_map_len new
    below numbered other n h true e = omega (arith, same n other h e, last, long)
    below numbered other n h false e = omega (arith, numbered.below other n (sym (miss other e) ∙ h), long)

    apart : HaveNameNumbers old (btree_map_len old) → (one other : List ℕ) (n : ℕ) → name_number new one ≡ Some n
        → name_number new other ≡ Some n → (b c : Bool) → bytes_eq who one ≡ b → bytes_eq who other ≡ c → one ≡ other
    apart numbered one other n h k true true be ce = sym (bytes_eq_same who one be) ∙ bytes_eq_same who other ce
    apart numbered one other n h k true false be ce =
        absurd (omega (arith, same n one h be, last, numbered.below other n (sym (miss other ce) ∙ k)))
    apart numbered one other n h k false true be ce =
        absurd (omega (arith, same n other k ce, last, numbered.below one n (sym (miss one be) ∙ h)))
    apart numbered one other n h k false false be ce =
        numbered.apart one other n (sym (miss one be) ∙ h) (sym (miss other ce) ∙ k)

-- the numbers of the ACEs so far, and that of the next one
pub numbers_more : (old new : BTreeMap (Bor (List ℕ)) ℕ) (a : AceRef) (number : ℕ) (aces : List AceRef)
    (numbers : List ℕ) → GivesNameNumber old a number new → AllZip (HasNameNumber old) aces numbers
    → AllZip (HasNameNumber new) (aces ++ a ∷ []) (numbers ++ number ∷ [])
numbers_more old new a number [] [] numbering zip = (numbering.is, tt)
numbers_more old new a number [] (n ∷ numbers) numbering zip = absurd zip
numbers_more old new a number (x ∷ aces) [] numbering zip = absurd zip
numbers_more old new a number (x ∷ aces) (n ∷ numbers) numbering zip = (
  λ un. numbering.kept x.who.now n (zip.0 un),
  numbers_more old new a number aces numbers numbering zip.1,
)

-- ---- the number of an ACE

number_at : (known : BTreeMap (Bor (List ℕ)) ℕ) (aces : List AceRef) (numbers : List ℕ) (item : AceRef) (place : ℕ)
    → AllZip (HasNameNumber known) aces numbers → place < length aces → item ≡ get_or aces place item
    → HasNameNumber known item (get_or numbers place 0)
number_at known [] numbers item place zip lt is = absurd (omega (arith, lt))
number_at known (a ∷ aces) [] item place zip lt is = absurd zip
number_at known (a ∷ aces) (n ∷ numbers) item zero zip lt is =
    subst (λ (x : AceRef). HasNameNumber known x n) (sym is) zip.0
number_at known (a ∷ aces) (n ∷ numbers) item (suc place) zip lt is =
    number_at known aces numbers item place zip.1 (omega (arith, lt)) is

-- the number at the place of an ACE is that of its name
pub number_of_ace : (aces : List AceRef) (names : OutNames) (item : AceRef) (place : ℕ) → IsFor aces names
    → place < length aces → item ≡ get_or aces place item → IsNameNumber names item place
number_of_ace aces names item place is lt read =
    let number = number_at names.known aces names.numbers.items item place is.each lt read in record {
      place_below = omega (arith, lt, AllZip-long _ aces names.numbers.items is.each);
      number_below = λ un.
          is.numbered.below item.who.now (get_or names.numbers.items place 0) (number un);
      is = λ un. sym (ap (λ (found : Option ℕ). option_map_or (λ n. get_or names.out.items n false) found false)
          (number un));
    }

-- the name of an ACE has a number
pub has_number : (aces : List AceRef) (names : OutNames) (who : List ℕ) → IsFor aces names → IsUnknownNameIn aces who
    → name_number names.known who ≡ None → ⊥
has_number aces names who is (item, place, at, same, un) none =
    none-some _ (sym none ∙ (ap (name_number names.known) (sym same)
    ∙ number_at names.known aces names.numbers.items item place is.each at.below at.is un))
