-- The flags of a child, flag by flag.
use Rattle.std.proofs.Common.{◌≡◌, ℕ, Bool, true, false, refl, sym, ap, subst, ◌∙◌}
use Rattle.std.specs.Prelude.{bit_and, bit_or, not, None, Some, ◌&&◌, ◌||◌}
use Rattle.std.proofs.lemmas.Option.{same_Some}
use Rattle.acl_perm.proofs.Bools.{and_true_right, and_false_right, or_true_right, or_false_right}
use Rattle.acl_perm.proofs.Sets.{has_bit-and, has_bit-or}
use Rattle.acl_perm.specs.Bits.{has_bit, inherit_only, identifier_group}
use Rattle.acl_eval.specs.declared.inherit.ChildKind.TheVariants.{File, Directory}
use Rattle.acl_eval.specs.Inheritance.{child_flags, ends, goes_on, waiting_flags, file_inherit, directory_inherit, no_propagate_inherit, inherited, kept_at_the_end, kept_on_the_way, inherit_only_alone}
use Rattle.acl_eval.specs.InheritanceLaws.{IsByFlag, successful_access, failed_access}

-- a flag of the set that is kept is as it was
has_bit-and_kept : (n c k : ℕ) → has_bit c k ≡ true → has_bit (bit_and n c) k ≡ has_bit n k
has_bit-and_kept n c k e = has_bit-and n c k ∙ ap (λ (b : Bool). has_bit n k && b) e ∙ and_true_right (has_bit n k)

-- a flag outside the set that is kept is clear
has_bit-and_cleared : (n c k : ℕ) → has_bit c k ≡ false → has_bit (bit_and n c) k ≡ false
has_bit-and_cleared n c k e = has_bit-and n c k ∙ ap (λ (b : Bool). has_bit n k && b) e ∙ and_false_right (has_bit n k)

-- a flag that is not added is as it was
with_bits : (n c k : ℕ) → has_bit c k ≡ false → has_bit (bit_or n c) k ≡ has_bit n k
with_bits n c k e = has_bit-or n c k ∙ ap (λ (b : Bool). has_bit n k || b) e ∙ or_false_right (has_bit n k)

-- a flag that is added is set
has_bit-or_set : (n c k : ℕ) → has_bit c k ≡ true → has_bit (bit_or n c) k ≡ true
has_bit-or_set n c k e = has_bit-or n c k ∙ ap (λ (b : Bool). has_bit n k || b) e ∙ or_true_right (has_bit n k)

-- a kept set that has the flags that are not about inheritance leaves these as they are
by_part : (on : Bool) (flags c : ℕ) → has_bit (bit_and flags c) file_inherit ≡ (on && has_bit flags file_inherit)
    → has_bit (bit_and flags c) directory_inherit ≡ (on && has_bit flags directory_inherit)
    → has_bit (bit_and flags c) no_propagate_inherit ≡ false
    → has_bit (bit_and flags c) inherit_only ≡ (on && not (has_bit flags directory_inherit))
    → has_bit c successful_access ≡ true → has_bit c failed_access ≡ true → has_bit c identifier_group ≡ true
    → has_bit c inherited ≡ false → IsByFlag on flags (bit_and flags c)
by_part on flags c file directory ends waiting_flags success failed group not_inherited = record {
  file = file;
  directory = directory;
  ends = ends;
  waits = waiting_flags;
  success = has_bit-and_kept flags c successful_access success;
  failed = has_bit-and_kept flags c failed_access failed;
  group = has_bit-and_kept flags c identifier_group group;
  not_inherited = has_bit-and_cleared flags c inherited not_inherited;
}

-- an ACE that the child does not pass on has the flags of the law
ends_by_flag : (flags : ℕ) → IsByFlag false flags (ends flags)
ends_by_flag flags =
    let gone = λ (k : ℕ) (e : has_bit kept_at_the_end k ≡ false). has_bit-and_cleared flags kept_at_the_end k e in
    by_part false flags kept_at_the_end (gone file_inherit refl) (gone directory_inherit refl)
    (gone no_propagate_inherit refl) (gone inherit_only refl) refl refl refl refl

-- an ACE that takes part in the child and is passed on has the flags of the law
passed_on : (flags : ℕ) → has_bit flags no_propagate_inherit ≡ false → has_bit flags directory_inherit ≡ true
    → IsByFlag true flags (goes_on flags)
passed_on flags n d =
    let stays = λ (k : ℕ) (e : has_bit kept_on_the_way k ≡ true). has_bit-and_kept flags kept_on_the_way k e in
    by_part true flags kept_on_the_way (stays file_inherit refl) (stays directory_inherit refl)
    (stays no_propagate_inherit refl ∙ n)
    (has_bit-and_cleared flags kept_on_the_way inherit_only refl ∙ sym (ap not d)) refl refl refl refl

-- an ACE that takes no part in the child and is passed on has the flags of the law
waiting_by_flag : (flags : ℕ) → has_bit flags no_propagate_inherit ≡ false → has_bit flags directory_inherit ≡ false
    → IsByFlag true flags (waiting_flags flags)
waiting_by_flag flags n d =
    let on = goes_on flags in
    let stays = λ (k : ℕ) (e : has_bit inherit_only_alone k ≡ false) (h : has_bit kept_on_the_way k ≡ true).
    with_bits on inherit_only_alone k e ∙ has_bit-and_kept flags kept_on_the_way k h in
    record {
      file = stays file_inherit refl refl;
      directory = stays directory_inherit refl refl;
      ends = stays no_propagate_inherit refl refl ∙ n;
      waits = has_bit-or_set on inherit_only_alone inherit_only refl ∙ sym (ap not d);
      success = stays successful_access refl refl;
      failed = stays failed_access refl refl;
      group = stays identifier_group refl refl;
      not_inherited =
          with_bits on inherit_only_alone inherited refl ∙ has_bit-and_cleared flags kept_on_the_way inherited refl;
    }

-- an ACE in a new file has the flags of the law, by which it is not passed on
pub files_by_flag : (flags f : ℕ) → child_flags File flags ≡ Some f → IsByFlag false flags f
files_by_flag flags f e = by (has_bit flags file_inherit) refl e
  where
    by : (p : Bool) → has_bit flags file_inherit ≡ p → child_flags File flags ≡ Some f → IsByFlag false flags f
    by true pe e = subst (IsByFlag false flags) (same_Some _ _ (sym (rw pe refl) ∙ e)) (ends_by_flag flags)
    by false pe e = let none : child_flags File flags ≡ None = rw pe refl in absurd cc

-- an ACE in a new directory has the flags of the law, by which it is passed on unless it has NO_PROPAGATE_INHERIT
pub directories_by_flag : (flags f : ℕ) → child_flags Directory flags ≡ Some f
    → IsByFlag (not (has_bit flags no_propagate_inherit)) flags f
directories_by_flag flags f e =
    by (has_bit flags file_inherit) (has_bit flags directory_inherit) (has_bit flags no_propagate_inherit)
    refl refl refl e
  where
    by : (p d n : Bool) → has_bit flags file_inherit ≡ p → has_bit flags directory_inherit ≡ d
        → has_bit flags no_propagate_inherit ≡ n → child_flags Directory flags ≡ Some f
        → IsByFlag (not (has_bit flags no_propagate_inherit)) flags f
    by p true true pe de ne e =
        subst (λ (on : Bool). IsByFlag on flags f) (sym (ap not ne))
        (subst (IsByFlag false flags) (same_Some _ _ (sym (rw (de, ne) refl) ∙ e)) (ends_by_flag flags))
    by p true false pe de ne e =
        subst (λ (on : Bool). IsByFlag on flags f) (sym (ap not ne))
        (subst (IsByFlag true flags) (same_Some _ _ (sym (rw (de, ne) refl) ∙ e)) (passed_on flags ne de))
    by p false true pe de ne e =
        let none : child_flags Directory flags ≡ None = rw (de, ne) refl in absurd cc
    by true false false pe de ne e =
        subst (λ (on : Bool). IsByFlag on flags f) (sym (ap not ne))
        (subst (IsByFlag true flags) (same_Some _ _ (sym (rw (de, ne, pe) refl) ∙ e)) (waiting_by_flag flags ne de))
    by false false false pe de ne e =
        let none : child_flags Directory flags ≡ None = rw (de, ne, pe) refl in absurd cc
