-- The list of a child, and which facts about the list of its parent still hold for it.
use Rattle.std.proofs.Common.{◌≡◌, ℕ, ◌+◌, ◌*◌, ◌≤◌, Bool, true, false, List, [], ◌∷◌, ◌++◌, length, refl, sym, ap, subst, ◌∙◌, append_assoc, arith}
use Rattle.std.specs.Prelude.{bit_and, count_ones, Option, None, Some, IsTrue, ◌&&◌}
use Rattle.std.specs.List.{AllByRecursion}
use Rattle.std.specs.Int.{bit_at}
use Rattle.std.proofs.lemmas.Bool.{eqb-true}
use Rattle.std.proofs.lemmas.Nat.{and_comm}
use Rattle.std.proofs.lemmas.Nat.Bits.{and_pow}
use Rattle.std.proofs.lemmas.Option.{same_Some}
use Rattle.acl_perm.proofs.Sets.{has_bit-and, same_set}
use Rattle.acl_perm.specs.Bits.{has_bit, inherit_only}
use Rattle.acl_perm.specs.Profile.{Profile}
use Rattle.acl_nfs4.specs.Ace.{Ace}
use Rattle.acl_nfs4.specs.Spelling.{Fits, IsAccepted, IsAce, weight}
use Rattle.acl_nfs4.specs.Within.{IsWithin}
use Rattle.acl_nfs4.proofs.Exports.{weight-cons}
use Rattle.acl_eval.specs.declared.inherit.ChildKind.{ChildKind}
use Rattle.acl_eval.specs.declared.inherit.ChildKind.TheVariants.{File, Directory}
use Rattle.acl_eval.specs.Inheritance.{child_flags, children, ends, goes_on, waiting_flags, with_flags, file_inherit, directory_inherit, no_propagate_inherit, kept_at_the_end, kept_on_the_way, inherit_only_alone}
-- bits of sets within a set
pub use Rattle.acl_nfs4.proofs.Exports.{bit_within, union_within}

-- ---- flags within a set

-- if one test implies another, it still does with one more condition
both_kept : (f c s : Bool) → (f && s) ≡ f → ((f && c) && s) ≡ (f && c)
both_kept false c s e = refl
both_kept true false s e = refl
both_kept true true s e = e

-- a part of a number within a set is within the set
pub part_within : (set n c : ℕ) → IsWithin set n → IsWithin set (bit_and n c)
part_within set n c is = same_set _ _ (λ k.
    has_bit-and (bit_and n c) set k ∙ ap (λ (b : Bool). b && has_bit set k) (has_bit-and n c k)
    ∙ both_kept (has_bit n k) (has_bit c k) (has_bit set k) (bit_within set n k is) ∙ sym (has_bit-and n c k))

-- a set with INHERIT_ONLY has that flag
pub inherit_only_within : (set : ℕ) → has_bit set inherit_only ≡ true → IsWithin set inherit_only_alone
inherit_only_within set h = and_comm 8 set ∙ and_pow set 3
    ∙ ap (λ (d : ℕ). d * 8) (eqb-true (bit_at set 3) 1 h)

-- if the flags of an ACE are within a set with INHERIT_ONLY, so are the flags of the ACE in the child
pub child_within : (set : ℕ) (kind : ChildKind) (flags f : ℕ) → has_bit set inherit_only ≡ true → IsWithin set flags
    → child_flags kind flags ≡ Some f → IsWithin set f
child_within set kind flags f h is e =
    by kind (has_bit flags file_inherit) (has_bit flags directory_inherit) (has_bit flags no_propagate_inherit)
    refl refl refl e
  where
    ends_in : Some (ends flags) ≡ Some f → IsWithin set f
    ends_in q = subst (IsWithin set) (same_Some _ _ q) (part_within set flags kept_at_the_end is)

    goes_on_in : Some (goes_on flags) ≡ Some f → IsWithin set f
    goes_on_in q = subst (IsWithin set) (same_Some _ _ q) (part_within set flags kept_on_the_way is)

    waits_in : Some (waiting_flags flags) ≡ Some f → IsWithin set f
    waits_in q = subst (IsWithin set) (same_Some _ _ q)
        (union_within set (goes_on flags) inherit_only_alone (part_within set flags kept_on_the_way is)
        (inherit_only_within set h))

    by : (kind : ChildKind) (p d n : Bool) → has_bit flags file_inherit ≡ p → has_bit flags directory_inherit ≡ d
        → has_bit flags no_propagate_inherit ≡ n → child_flags kind flags ≡ Some f → IsWithin set f
    by File true d n pe de ne e = ends_in (sym (rw pe refl) ∙ e)
    by File false d n pe de ne e = let none : child_flags File flags ≡ None = rw pe refl in absurd cc
    by Directory p true true pe de ne e = ends_in (sym (rw (de, ne) refl) ∙ e)
    by Directory p true false pe de ne e = goes_on_in (sym (rw (de, ne) refl) ∙ e)
    by Directory p false true pe de ne e =
        let none : child_flags Directory flags ≡ None = rw (de, ne) refl in absurd cc
    by Directory true false false pe de ne e = waits_in (sym (rw (de, ne, pe) refl) ∙ e)
    by Directory false false false pe de ne e =
        let none : child_flags Directory flags ≡ None = rw (de, ne, pe) refl in absurd cc

-- ---- a whole list

-- an ACE that the child has
pub child_has : (kind : ChildKind) (a : Ace) (list : List Ace) (f : ℕ) → child_flags kind a.flags ≡ Some f
    → children kind (a ∷ list) ≡ with_flags a f ∷ children kind list
child_has kind a list f e = rw e refl

-- an ACE that the child lacks
pub child_lacks : (kind : ChildKind) (a : Ace) (list : List Ace) → child_flags kind a.flags ≡ None
    → children kind (a ∷ list) ≡ children kind list
child_lacks kind a list e = rw e refl

-- a property of ACEs that stays with the flags of the child holds for all ACEs of the child if for those of the parent
each_child : (P : Ace → Type 0) (kind : ChildKind) (list : List Ace)
    → ((a : Ace) (f : ℕ) → child_flags kind a.flags ≡ Some f → P a → P (with_flags a f))
    → AllByRecursion P list → AllByRecursion P (children kind list)
each_child P kind [] step each = tt
each_child P kind (a ∷ list) step each = by (each_child P kind list step each.1) (child_flags kind a.flags) refl
  where
    by : AllByRecursion P (children kind list) → (o : Option ℕ) → child_flags kind a.flags ≡ o
        → AllByRecursion P (children kind (a ∷ list))
    by rest None e = subst (AllByRecursion P) (sym (child_lacks kind a list e)) rest
    by rest (Some f) e = subst (AllByRecursion P) (sym (child_has kind a list f e)) (step a f e each.0, rest)

-- a sum over the ACEs that does not depend on flags is no greater in the child
no_more : (total : List Ace → ℕ) (of : Ace → ℕ) → ((a : Ace) (list : List Ace) → total (a ∷ list) ≡ of a + total list)
    → ((a : Ace) (f : ℕ) → of (with_flags a f) ≡ of a) → (kind : ChildKind) (list : List Ace)
    → total (children kind list) ≤ total list
no_more total of cons same kind [] = omega arith
no_more total of cons same kind (a ∷ list) =
    by (no_more total of cons same kind list) (child_flags kind a.flags) refl
  where
    by : total (children kind list) ≤ total list → (o : Option ℕ) → child_flags kind a.flags ≡ o
        → total (children kind (a ∷ list)) ≤ total (a ∷ list)
    by rest None e = let l = ap total (child_lacks kind a list e) in omega (arith, rest, l, cons a list)
    by rest (Some f) e =
        let l : total (children kind (a ∷ list)) ≡ of (with_flags a f) + total (children kind list) =
        ap total (child_has kind a list f e) ∙ cons (with_flags a f) (children kind list) in
        omega (arith, rest, l, same a f, cons a list)

-- the child has no more ACEs than the parent
pub length-children : (kind : ChildKind) (list : List Ace) → length (children kind list) ≤ length list
length-children = no_more length (λ a. 1) (λ a list. omega arith) (λ a f. refl)

-- the child has no more mask bits than the parent
pub weight-children : (kind : ChildKind) (list : List Ace) → weight (children kind list) ≤ weight list
weight-children = no_more weight (λ a. count_ones a.mask) weight-cons (λ a f. refl)

-- the child of a list that fits a profile with INHERIT_ONLY fits it
pub child_fits : (p : Profile) (kind : ChildKind) (list : List Ace) → IsTrue (has_bit p.flags inherit_only)
    → Fits p list → Fits p (children kind list)
child_fits p kind list h each =
    each_child (λ a. IsWithin p.flags a.flags × IsWithin p.masks a.mask) kind list
    (λ a f e is. (child_within p.flags kind a.flags f h is.0 e, is.1)) each

-- the child of an accepted list is accepted
pub child_accepted : (p : Profile) (kind : ChildKind) (list : List Ace) → IsTrue (has_bit p.flags inherit_only)
    → IsAccepted p list → IsAccepted p (children kind list)
child_accepted p kind list h ok = record {
  count = omega (arith, length-children kind list, ok.count);
  weight = omega (arith, weight-children kind list, ok.weight);
  each = each_child (IsAce p) kind list
      (λ a f e is. record { flags = child_within p.flags kind a.flags f h is.flags e; mask = is.mask; who = is.who })
      ok.each;
}

-- ---- ACE by ACE

-- one more ACE moves from what is to come to what the child has
pub moved : (done rest : List Ace) (a : Ace) → (done ++ a ∷ []) ++ rest ≡ done ++ a ∷ rest
moved done rest a = append_assoc done (a ∷ []) rest

-- ---- the table, row by row

-- a file has an ACE with FILE_INHERIT, without flags of inheritance
pub file_inherited : (flags : ℕ) → has_bit flags file_inherit ≡ true → child_flags File flags ≡ Some (ends flags)
file_inherited flags f = rw f refl

-- a file does not have an ACE without FILE_INHERIT
pub file_absent : (flags : ℕ) → has_bit flags file_inherit ≡ false → child_flags File flags ≡ None
file_absent flags f = rw f refl

-- a directory has an ACE with NO_PROPAGATE_INHERIT and DIRECTORY_INHERIT, without flags of inheritance
pub directory_ended : (flags : ℕ) → has_bit flags no_propagate_inherit ≡ true → has_bit flags directory_inherit ≡ true
    → child_flags Directory flags ≡ Some (ends flags)
directory_ended flags n d = rw (d, n) refl

-- a directory does not have an ACE with NO_PROPAGATE_INHERIT and without DIRECTORY_INHERIT
pub directory_ended_before : (flags : ℕ) → has_bit flags no_propagate_inherit ≡ true
    → has_bit flags directory_inherit ≡ false → child_flags Directory flags ≡ None
directory_ended_before flags n d = rw (d, n) refl

-- a directory has an ACE with DIRECTORY_INHERIT and without NO_PROPAGATE_INHERIT, and passes it on
pub directory_inherited : (flags : ℕ) → has_bit flags no_propagate_inherit ≡ false
    → has_bit flags directory_inherit ≡ true → child_flags Directory flags ≡ Some (goes_on flags)
directory_inherited flags n d = rw (d, n) refl

-- a directory has an ACE for files alone without NO_PROPAGATE_INHERIT, with INHERIT_ONLY, and passes it on
pub directory_for_files : (flags : ℕ) → has_bit flags no_propagate_inherit ≡ false
    → has_bit flags directory_inherit ≡ false → has_bit flags file_inherit ≡ true
    → child_flags Directory flags ≡ Some (waiting_flags flags)
directory_for_files flags n d f = rw (d, n, f) refl

-- a directory does not have an ACE that is neither for files nor for directories
pub directory_absent : (flags : ℕ) → has_bit flags no_propagate_inherit ≡ false
    → has_bit flags directory_inherit ≡ false → has_bit flags file_inherit ≡ false
    → child_flags Directory flags ≡ None
directory_absent flags n d f = rw (d, n, f) refl

pub ruleset table = (
  file_inherited,
  file_absent,
  directory_ended,
  directory_ended_before,
  directory_inherited,
  directory_for_files,
  directory_absent,
)
