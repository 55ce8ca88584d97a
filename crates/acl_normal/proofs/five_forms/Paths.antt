-- Below the first new directory nothing is new, and what fits a profile does at every path.
use Rattle.std.proofs.Common.{◌≡◌, ◌≤◌, ℕ, zero, suc, Bool, true, false, List, [], ◌∷◌, refl, ◌⊎◌}
use Rattle.acl_normal.proofs.Common.{Ace, ap, arith, bit_and, bit_or, Fits, flags_for, has_bit, has_bit-and, has_bit-or, HasNormalFlags, inl, inr, IsNormalFormOf, IsProfile, IsTrue, IsWithin, no_bit, None, Option, Principal, principal_of, Profile, same_set, same_Some, Some, subst, sym, ◌&&◌, ◌||◌, ◌↔◌, ◌∙◌, and_false_right}
use Rattle.acl_perm.specs.Bits.{all_flags, inherit_only}
use Rattle.acl_nfs4.proofs.Exports.{within_part}
use Rattle.acl_eval.specs.Inheritance.{child_flags, children, directory_inherit, ends, file_inherit, goes_on, no_propagate_inherit, waiting_flags, with_flags}
use Rattle.acl_eval.specs.declared.inherit.ChildKind.{ChildKind}
use Rattle.acl_eval.specs.declared.inherit.ChildKind.TheVariants.{Directory, File}
use Rattle.acl_eval.proofs.Children.{child_fits, child_has, child_lacks, directory_absent, directory_ended, directory_ended_before, directory_for_files, directory_inherited, file_absent, union_within}
use Rattle.acl_normal.specs.Paths.{Path, SameAt, SameAtEveryPath, SameAtFive, at, below, directory_below, here}
use Rattle.acl_perm.proofs.Bools.{or_true_right}

-- ---- the flags of an ACE in a new directory, and in a new directory in that

-- to keep a bit twice is to keep it once
kept_twice : (h c : Bool) → ((h && c) && c) ≡ (h && c)
kept_twice h c = grind arith

-- to keep some bits and set others twice is to do so once
set_twice : (h c e : Bool) → ((((h && c) || e) && c) || e) ≡ ((h && c) || e)
set_twice h c e = grind arith

-- an ACE that is passed on twice has the flags of one that is passed on once
goes_on_again : (flags : ℕ) → goes_on (goes_on flags) ≡ goes_on flags
goes_on_again flags = same_set _ _ (λ k.
    has_bit-and (goes_on flags) 0x77 k ∙ ap (λ (b : Bool). b && has_bit 0x77 k) (has_bit-and flags 0x77 k)
    ∙ kept_twice (has_bit flags k) (has_bit 0x77 k) ∙ sym (has_bit-and flags 0x77 k))

-- the flags of an ACE that takes no part in a child are those kept on the way, and INHERIT_ONLY
waiting_bit : (flags k : ℕ) → has_bit (waiting_flags flags) k ≡ ((has_bit flags k && has_bit 0x77 k) || has_bit 0x08 k)
waiting_bit flags k =
    has_bit-or (goes_on flags) 0x08 k ∙ ap (λ (b : Bool). b || has_bit 0x08 k) (has_bit-and flags 0x77 k)

-- an ACE that takes no part in a child, twice in turn, has the flags of one that does so once
waits_again : (flags : ℕ) → waiting_flags (waiting_flags flags) ≡ waiting_flags flags
waits_again flags = same_set _ _ (λ k.
    waiting_bit (waiting_flags flags) k
    ∙ ap (λ (b : Bool). (b && has_bit 0x77 k) || has_bit 0x08 k) (waiting_bit flags k)
    ∙ set_twice (has_bit flags k) (has_bit 0x77 k) (has_bit 0x08 k) ∙ sym (waiting_bit flags k))

-- a directory passes an ACE with these flags on as it is, or passes it on to no child
abbrev GoesOnOrEnds : ℕ → Type 0
GoesOnOrEnds flags = (child_flags Directory flags ≡ Some flags) ⊎ ((kind : ChildKind) → child_flags kind flags ≡ None)

-- an ACE that ends in a new directory is passed on to no child
nothing_behind : (flags : ℕ) (kind : ChildKind) → child_flags kind (ends flags) ≡ None
nothing_behind flags kind = by kind (has_bit (ends flags) no_propagate_inherit) refl
  where
    no_file : has_bit (ends flags) file_inherit ≡ false
    no_file = has_bit-and flags 0x70 0 ∙ and_false_right (has_bit flags 0)

    no_directory : has_bit (ends flags) directory_inherit ≡ false
    no_directory = has_bit-and flags 0x70 1 ∙ and_false_right (has_bit flags 1)

    by : (kind : ChildKind) (n : Bool) → has_bit (ends flags) no_propagate_inherit ≡ n
        → child_flags kind (ends flags) ≡ None
    by File n e = file_absent (ends flags) no_file
    by Directory true e = directory_ended_before (ends flags) e no_directory
    by Directory false e = directory_absent (ends flags) e no_directory no_file

-- an ACE that a directory passes on to directories has the same flags in the next directory
on_again : (flags : ℕ) → has_bit flags directory_inherit ≡ true → has_bit flags no_propagate_inherit ≡ false
    → child_flags Directory (goes_on flags) ≡ Some (goes_on flags)
on_again flags d n =
    directory_inherited (goes_on flags) (has_bit-and flags 0x77 2 ∙ ap (λ (b : Bool). b && true) n)
    (has_bit-and flags 0x77 1 ∙ ap (λ (b : Bool). b && true) d) ∙ ap Some (goes_on_again flags)

-- an ACE that waits for files is passed on to the next directory with the flags that it has
wait_again : (flags : ℕ) → has_bit flags directory_inherit ≡ false → has_bit flags no_propagate_inherit ≡ false
    → has_bit flags file_inherit ≡ true → child_flags Directory (waiting_flags flags) ≡ Some (waiting_flags flags)
wait_again flags d n f =
    directory_for_files (waiting_flags flags) (waiting_bit flags 2 ∙ ap (λ (b : Bool). (b && true) || false) n)
    (waiting_bit flags 1 ∙ ap (λ (b : Bool). (b && true) || false) d)
    (waiting_bit flags 0 ∙ ap (λ (b : Bool). (b && true) || false) f) ∙ ap Some (waits_again flags)

-- an ACE with the flags that it has in a new directory is passed on as it is, or to no child
handed_on : (flags f : ℕ) → child_flags Directory flags ≡ Some f → GoesOnOrEnds f
handed_on flags f e =
    by (has_bit flags directory_inherit) (has_bit flags no_propagate_inherit) (has_bit flags file_inherit)
    refl refl refl
  where
    by : (d n p : Bool) → has_bit flags directory_inherit ≡ d → has_bit flags no_propagate_inherit ≡ n
        → has_bit flags file_inherit ≡ p → GoesOnOrEnds f
    by true true p de ne pe = subst GoesOnOrEnds (same_Some _ _ (sym (directory_ended flags ne de) ∙ e))
        (inr (nothing_behind flags))
    by true false p de ne pe = subst GoesOnOrEnds (same_Some _ _ (sym (directory_inherited flags ne de) ∙ e))
        (inl (on_again flags de ne))
    by false true p de ne pe = let none = directory_ended_before flags ne de in absurd cc
    by false false true de ne pe = subst GoesOnOrEnds (same_Some _ _ (sym (directory_for_files flags ne de pe) ∙ e))
        (inl (wait_again flags de ne pe))
    by false false false de ne pe = let none = directory_absent flags ne de pe in absurd cc

-- ---- lists

-- lists with the same children have the same children with an ACE in front of both
same_children_behind : (kind : ChildKind) (a : Ace) (list other : List Ace) → children kind list ≡ children kind other
    → children kind (a ∷ list) ≡ children kind (a ∷ other)
same_children_behind kind a list other same = by (child_flags kind a.flags) refl
  where
    by : (o : Option ℕ) → child_flags kind a.flags ≡ o → children kind (a ∷ list) ≡ children kind (a ∷ other)
    by None e = child_lacks kind a list e ∙ same ∙ sym (child_lacks kind a other e)
    by (Some f) e = child_has kind a list f e ∙ ap (λ (rest : List Ace). with_flags a f ∷ rest) same
        ∙ sym (child_has kind a other f e)

-- a new directory in a new directory passes on what the new directory passes on
pub second_is_first : (kind : ChildKind) (list : List Ace)
    → children kind (children Directory (children Directory list)) ≡ children kind (children Directory list)
second_is_first kind [] = refl
second_is_first kind (a ∷ list) = by (second_is_first kind list) (child_flags Directory a.flags) refl
  where
    first : List Ace
    first = children Directory list

    in_second : (f : ℕ) → GoesOnOrEnds f → children kind (children Directory first) ≡ children kind first
        → children kind (children Directory (with_flags a f ∷ first)) ≡ children kind (with_flags a f ∷ first)
    in_second f on rest = elim on [
      | inl again ↦ ap (children kind) (child_has Directory (with_flags a f) first f again)
          ∙ same_children_behind kind (with_flags a f) (children Directory first) first rest
      | inr none ↦ ap (children kind) (child_lacks Directory (with_flags a f) first (none Directory)) ∙ rest
          ∙ sym (child_lacks kind (with_flags a f) first (none kind))
    ]

    by : children kind (children Directory first) ≡ children kind first
        → (o : Option ℕ) → child_flags Directory a.flags ≡ o
        → children kind (children Directory (children Directory (a ∷ list)))
        ≡ children kind (children Directory (a ∷ list))
    by rest None e = rw (child_lacks Directory a list e) rest
    by rest (Some f) e = rw (child_has Directory a list f e) (in_second f (handed_on a.flags f e) rest)

-- the children of a directory further below are those of the first new directory
pub further_below : (list : List Ace) (count : ℕ) (kind : ChildKind)
    → children kind (directory_below list (suc count)) ≡ children kind (directory_below list 1)
further_below list zero kind = refl
further_below list (suc count) kind =
    ap (children kind) (further_below list count Directory) ∙ second_is_first kind list

-- the list at a path of one or more new directories is that at the path of one
pub same_further_below : (list : List Ace) (count : ℕ) (kind : ChildKind) → 1 ≤ count
    → at list (below count kind) ≡ at list (below 1 kind)
same_further_below list zero kind le = absurd (omega (arith, le))
same_further_below list (suc count) kind le = further_below list count kind

-- lists agree at every path if and only if they agree at the five
pub five_suffice : (rights : ℕ) (list other : List Ace) → SameAtFive rights list other
    ↔ SameAtEveryPath rights list other
five_suffice rights list other = (
  everywhere,
  λ same. (
    same here,
    (same (below 0 File), (same (below 0 Directory), (same (below 1 File), (same (below 1 Directory), tt)))),
  ),
)
  where
    everywhere : SameAtFive rights list other → (path : Path) → SameAt rights list other path
    everywhere (now, (file, (directory, (inner_file, (inner_directory, _))))) here = now
    everywhere (now, (file, (directory, (inner_file, (inner_directory, _))))) (below zero File) = file
    everywhere (now, (file, (directory, (inner_file, (inner_directory, _))))) (below zero Directory) = directory
    everywhere (now, (file, (directory, (inner_file, (inner_directory, _))))) (below (suc count) File) =
        rw (further_below list count File, further_below other count File) inner_file
    everywhere (now, (file, (directory, (inner_file, (inner_directory, _))))) (below (suc count) Directory) =
        rw (further_below list count Directory, further_below other count Directory) inner_directory

-- ---- profiles

-- the profile with INHERIT_ONLY, which a new directory sets
abbrev pub with_inherit_only : Profile → Profile
with_inherit_only p = record { masks = p.masks; flags = bit_or p.flags 0x08 }

-- a value and what it implies are the value
is_either : (a b : Bool) → (a && (a || b)) ≡ a
is_either a b = grind arith

-- the profile with INHERIT_ONLY has that flag
pub has_inherit_only : (p : Profile) → has_bit (with_inherit_only p).flags inherit_only ≡ true
has_inherit_only p = has_bit-or p.flags 0x08 3 ∙ or_true_right (has_bit p.flags 3)

-- the flags of a profile are within the profile with INHERIT_ONLY
flags_inside : (p : Profile) → IsWithin (with_inherit_only p).flags p.flags
flags_inside p = same_set _ _ (λ k.
    has_bit-and p.flags (bit_or p.flags 0x08) k
    ∙ ap (λ (b : Bool). has_bit p.flags k && b) (has_bit-or p.flags 0x08 k)
    ∙ is_either (has_bit p.flags k) (has_bit 0x08 k))

-- the profile with INHERIT_ONLY is a profile
pub wider_is : (p : Profile) → IsProfile p → IsProfile (with_inherit_only p)
wider_is p is = record { masks = is.masks; flags = union_within all_flags p.flags 0x08 is.flags refl }

-- a list that fits a profile fits the profile with INHERIT_ONLY
pub fits_wider : (p : Profile) (list : List Ace) → Fits p list → Fits (with_inherit_only p) list
fits_wider p [] fits = tt
fits_wider p (a ∷ list) ((flags, masks), rest) = (
  (within_part (with_inherit_only p).flags p.flags a.flags (flags_inside p) flags, masks),
  fits_wider p list rest,
)

-- the lists of new directories fit a profile with INHERIT_ONLY that the list fits
dirs_fit : (p : Profile) (list : List Ace) (count : ℕ) → IsTrue (has_bit p.flags inherit_only) → Fits p list
    → Fits p (directory_below list count)
dirs_fit p list zero has fits = fits
dirs_fit p list (suc count) has fits =
    child_fits p Directory (directory_below list count) has (dirs_fit p list count has fits)

-- if a list fits a profile, the list at each path fits the profile with INHERIT_ONLY
pub fits_at : (p : Profile) (list : List Ace) (path : Path) → Fits p list → Fits (with_inherit_only p) (at list path)
fits_at p list here fits = fits_wider p list fits
fits_at p list (below count kind) fits =
    child_fits (with_inherit_only p) kind (directory_below list count) (has_inherit_only p)
    (dirs_fit (with_inherit_only p) list count (has_inherit_only p) (fits_wider p list fits))

-- a value within two others together, and apart from the second, is within the first
inside_first : (b f e : Bool) → (b && (f || e)) ≡ b → (b && e) ≡ false → (b && f) ≡ b
inside_first b f e whole none = grind arith

-- the flags that a principal needs are apart from INHERIT_ONLY
no_inherit_only : (p : Principal) → bit_and (flags_for p) 0x08 ≡ 0
no_inherit_only p = grind arith

-- flags without INHERIT_ONLY that are within the profile with that flag are within the profile
flags_back : (p : Profile) (flags : ℕ) → bit_and flags 0x08 ≡ 0 → IsWithin (with_inherit_only p).flags flags
    → IsWithin p.flags flags
flags_back p flags none is = same_set _ _ (λ k.
    has_bit-and flags p.flags k
    ∙ inside_first (has_bit flags k) (has_bit p.flags k) (has_bit 0x08 k)
    (sym (has_bit-and flags (bit_or p.flags 0x08) k
    ∙ ap (λ (b : Bool). has_bit flags k && b) (has_bit-or p.flags 0x08 k)) ∙ ap (λ (m : ℕ). has_bit m k) is)
    (sym (has_bit-and flags 0x08 k) ∙ ap (λ (m : ℕ). has_bit m k) none ∙ no_bit k))

-- a list with normal flags that fits the profile with INHERIT_ONLY fits the profile
pub fits_back : (p : Profile) (list : List Ace) → HasNormalFlags list → Fits (with_inherit_only p) list → Fits p list
fits_back p [] normal fits = tt
fits_back p (a ∷ list) normal ((flags, masks), rest) = (
  (flags_back p a.flags (ap (λ (n : ℕ). bit_and n 0x08) normal.0 ∙ no_inherit_only (principal_of a)) flags, masks),
  fits_back p list normal.1 rest,
)

-- the normal form of the list at a path fits each profile that the list fits
pub form_fits : (p : Profile) (source form : List Ace) (path : Path) → Fits p source
    → IsNormalFormOf (at source path) form → Fits p form
form_fits p source form path fits is =
    fits_back p form is.normal.flags (is.fits (with_inherit_only p) (fits_at p source path fits))
