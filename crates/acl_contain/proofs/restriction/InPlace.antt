-- The list at one of five paths of creations grants what the same list with each ACE at its place grants.
use Rattle.std.specs.Prelude.{◌↔◌}
use Rattle.acl_perm.proofs.Bools.{and_false_right, and_true_right, or_false_right, or_true_right}
use Rattle.acl_perm.specs.Bits.{inherit_only}
use Rattle.acl_perm.specs.Situation.{Situation}
use Rattle.acl_normal.proofs.Common.{Ace, Bool, List, None, Option, Some, [], all_rights, ap, bit_and, false, has_bit, has_bit-and, has_bit-or, identifier_group, if◌then◌else◌, is_allow, matches, no_bit, not, refl, subst, suc, sym, true, zero, ℕ, ◌&&◌, ◌∙◌, ◌∷◌, ◌≡◌, ◌||◌}
use Rattle.acl_normal.specs.Paths.{Path, at, below, directory_below, here}
use Rattle.acl_eval.proofs.Children.{child_has, child_lacks}
use Rattle.acl_eval.proofs.Same.{at_most_by_bits}
use Rattle.acl_eval.specs.Grant.{GrantsAtMost, grants_bit}
use Rattle.acl_eval.specs.Inheritance.{child_flags, children, directory_inherit, ends, file_inherit, goes_on, no_propagate_inherit, waiting_flags, with_flags}
use Rattle.acl_eval.specs.declared.inherit.ChildKind.{ChildKind}
use Rattle.acl_eval.specs.declared.inherit.ChildKind.TheVariants.{Directory, File}
use Rattle.acl_contain.proofs.restriction.Removals.{granted_first}
use Rattle.acl_contain.specs.EveryPath.{AtMostAt, AtMostEverywhere}
use Rattle.acl_contain.specs.declared.restricting.short_path.ShortPath.{ShortPath}
use Rattle.acl_contain.specs.declared.restricting.short_path.ShortPath.TheVariants.{DirectoryInDirectory, FileInDirectory, NewDirectory, NewFile, Object}
use Rattle.acl_contain.specs.internal.InPlace.{all_in_place, in_place, path_of, takes_part_at}
use Rattle.acl_contain.specs.internal.Restriction.{is_hit}

-- ---- the flags of an ACE at a path

-- the flags of an ACE in the child of a directory that has it, or not, with some flags
abbrev child_of : ChildKind → Option ℕ → Option ℕ
child_of kind None = None
child_of kind (Some flags) = child_flags kind flags

-- the flags of an ACE in the last of this many new directories
abbrev flags_below : ℕ → ℕ → Option ℕ
flags_below zero flags = Some flags
flags_below (suc count) flags = child_of Directory (flags_below count flags)

-- the flags of an ACE at the path, or none if the list there does not have it
abbrev flags_at : Path → ℕ → Option ℕ
flags_at here flags = Some flags
flags_at (below count kind) flags = child_of kind (flags_below count flags)

-- an ACE has these flags, or is not there, where it takes part or not, and its who is a group or not
abbrev IsThere : Bool → Bool → Option ℕ → Type 0
IsThere part group None = part ≡ false
IsThere part group (Some flags) = (has_bit flags inherit_only ≡ not part) × (has_bit flags identifier_group ≡ group)

-- a new directory has an ACE with these flags, or does not have it, and passes it on to files or not and to directories
-- or not, for good
abbrev PassesOn : Bool → Bool → Bool → Option ℕ → Type 0
PassesOn files directories group None = (files ≡ false) × (directories ≡ false)
PassesOn files directories group (Some flags) = (has_bit flags file_inherit ≡ files)
    × (has_bit flags directory_inherit ≡ directories) × (has_bit flags no_propagate_inherit ≡ false)
    × (has_bit flags identifier_group ≡ group)

-- an ACE that a child does not pass on has these flags alone
end_bit : (flags k : ℕ) → has_bit (ends flags) k ≡ (has_bit flags k && has_bit 0x70 k)
end_bit flags k = has_bit-and flags 0x70 k

-- to keep a flag and to add none
kept_beside : (g : Bool) → ((g && true) || false) ≡ g
kept_beside g = or_false_right (g && true) ∙ and_true_right g

-- an ACE that a new directory passes on keeps these flags
on_bit : (flags k : ℕ) → has_bit 0x77 k ≡ true → has_bit (goes_on flags) k ≡ has_bit flags k
on_bit flags k kept = has_bit-and flags 0x77 k ∙ rw kept (and_true_right (has_bit flags k))

-- the bits of the flags of an ACE that is passed on to files alone
waiting_bit : (flags k : ℕ) → has_bit (waiting_flags flags) k ≡ ((has_bit flags k && has_bit 0x77 k) || has_bit 0x08 k)
waiting_bit flags k =
    has_bit-or (goes_on flags) 0x08 k ∙ ap (λ (b : Bool). b || has_bit 0x08 k) (has_bit-and flags 0x77 k)

-- such an ACE keeps these flags
wait_bit : (flags k : ℕ) → has_bit 0x77 k ≡ true → has_bit 0x08 k ≡ false
    → has_bit (waiting_flags flags) k ≡ has_bit flags k
wait_bit flags k kept new = waiting_bit flags k ∙ rw (kept, new) (kept_beside (has_bit flags k))

-- an ACE that a child does not pass on takes part
ended : (flags : ℕ) → IsThere true (has_bit flags identifier_group) (Some (ends flags))
ended flags = (
  end_bit flags 3 ∙ and_false_right (has_bit flags 3),
  end_bit flags 6 ∙ and_true_right (has_bit flags 6),
)

-- an ACE that a new directory passes on without INHERIT_ONLY takes part
gone_on : (flags : ℕ) → IsThere true (has_bit flags identifier_group) (Some (goes_on flags))
gone_on flags = (has_bit-and flags 0x77 3 ∙ and_false_right (has_bit flags 3), on_bit flags 6 refl)

-- an ACE that a new directory passes on to files alone takes no part
waiting : (flags : ℕ) → IsThere false (has_bit flags identifier_group) (Some (waiting_flags flags))
waiting flags = (waiting_bit flags 3 ∙ or_true_right (has_bit flags 3 && false), wait_bit flags 6 refl refl)

-- the bit of the flag by which a child of this kind has an ACE that takes part
abbrev of_kind : ChildKind → ℕ
of_kind File = file_inherit
of_kind Directory = directory_inherit

-- a child has an ACE that takes part in it, or not, by the flags of the ACE
child_there : (kind : ChildKind) (flags : ℕ)
    → IsThere (has_bit flags (of_kind kind)) (has_bit flags identifier_group) (child_flags kind flags)
child_there kind flags =
    by kind (has_bit flags file_inherit) (has_bit flags directory_inherit) (has_bit flags no_propagate_inherit)
    refl refl refl
  where
    by : (kind : ChildKind) (p d n : Bool) → has_bit flags file_inherit ≡ p → has_bit flags directory_inherit ≡ d
        → has_bit flags no_propagate_inherit ≡ n
        → IsThere (has_bit flags (of_kind kind)) (has_bit flags identifier_group) (child_flags kind flags)
    by File true d n pe de ne = rw pe (ended flags)
    by File false d n pe de ne = rw pe refl
    by Directory p true true pe de ne = rw (de, ne) (ended flags)
    by Directory p true false pe de ne = rw (de, ne) (gone_on flags)
    by Directory p false true pe de ne = rw (de, ne) refl
    by Directory true false false pe de ne = rw (de, ne, pe) (waiting flags)
    by Directory false false false pe de ne = rw (de, ne, pe) refl

-- what a new directory passes on
passes_first : (flags : ℕ) → PassesOn (has_bit flags file_inherit && not (has_bit flags no_propagate_inherit))
    (has_bit flags directory_inherit && not (has_bit flags no_propagate_inherit)) (has_bit flags identifier_group)
    (child_flags Directory flags)
passes_first flags =
    by (has_bit flags file_inherit) (has_bit flags directory_inherit) (has_bit flags no_propagate_inherit)
    refl refl refl
  where
    by : (p d n : Bool) → has_bit flags file_inherit ≡ p → has_bit flags directory_inherit ≡ d
        → has_bit flags no_propagate_inherit ≡ n
        → PassesOn (has_bit flags file_inherit && not (has_bit flags no_propagate_inherit))
        (has_bit flags directory_inherit && not (has_bit flags no_propagate_inherit)) (has_bit flags identifier_group)
        (child_flags Directory flags)
    by p true true pe de ne = rw (pe, de, ne) (
      end_bit flags 0 ∙ and_false_right (has_bit flags 0) ∙ sym (and_false_right p),
      end_bit flags 1 ∙ and_false_right (has_bit flags 1),
      end_bit flags 2 ∙ and_false_right (has_bit flags 2),
      end_bit flags 6 ∙ and_true_right (has_bit flags 6),
    )
    by p true false pe de ne = rw (pe, de, ne) (
      on_bit flags 0 refl ∙ pe ∙ sym (and_true_right p),
      on_bit flags 1 refl ∙ de,
      on_bit flags 2 refl ∙ ne,
      on_bit flags 6 refl,
    )
    by p false true pe de ne = rw (pe, de, ne) (and_false_right p, refl)
    by true false false pe de ne = rw (pe, de, ne) (
      wait_bit flags 0 refl refl ∙ pe,
      wait_bit flags 1 refl refl ∙ de,
      wait_bit flags 2 refl refl ∙ ne,
      wait_bit flags 6 refl refl,
    )
    by false false false pe de ne = rw (pe, de, ne) (refl, refl)

-- a new directory in it passes on the same
passes_again : (p d g : Bool) (o : Option ℕ) → PassesOn p d g o → PassesOn p d g (child_of Directory o)
passes_again p d g None none = none
passes_again true true g (Some f) (pe, de, ne, ge) = rw (de, ne) (
  on_bit f 0 refl ∙ pe,
  on_bit f 1 refl ∙ de,
  on_bit f 2 refl ∙ ne,
  on_bit f 6 refl ∙ ge,
)
passes_again false true g (Some f) (pe, de, ne, ge) = rw (de, ne) (
  on_bit f 0 refl ∙ pe,
  on_bit f 1 refl ∙ de,
  on_bit f 2 refl ∙ ne,
  on_bit f 6 refl ∙ ge,
)
passes_again true false g (Some f) (pe, de, ne, ge) = rw (de, ne, pe) (
  wait_bit f 0 refl refl ∙ pe,
  wait_bit f 1 refl refl ∙ de,
  wait_bit f 2 refl refl ∙ ne,
  wait_bit f 6 refl refl ∙ ge,
)
passes_again false false g (Some f) (pe, de, ne, ge) = rw (de, ne, pe) (refl, refl)

-- so each new directory does
passes_below : (flags count : ℕ) → PassesOn (has_bit flags file_inherit && not (has_bit flags no_propagate_inherit))
    (has_bit flags directory_inherit && not (has_bit flags no_propagate_inherit)) (has_bit flags identifier_group)
    (flags_below (suc count) flags)
passes_below flags zero = passes_first flags
passes_below flags (suc count) = passes_again _ _ _ (flags_below (suc count) flags) (passes_below flags count)

-- a file in a new directory has an ACE that takes part in it, or not, by what the directory passes on
passed_file : (p d g : Bool) (o : Option ℕ) → PassesOn p d g o → IsThere p g (child_of File o)
passed_file p d g None (none, _) = none
passed_file p d g (Some f) (pe, de, ne, ge) =
    subst (λ v. IsThere v g (child_flags File f)) pe
    (subst (λ v. IsThere (has_bit f file_inherit) v (child_flags File f)) ge (child_there File f))

-- so it is for a directory
passed_directory : (p d g : Bool) (o : Option ℕ) → PassesOn p d g o → IsThere d g (child_of Directory o)
passed_directory p d g None (_, none) = none
passed_directory p d g (Some f) (pe, de, ne, ge) =
    subst (λ v. IsThere v g (child_flags Directory f)) de
    (subst (λ v. IsThere (has_bit f directory_inherit) v (child_flags Directory f)) ge (child_there Directory f))

-- one of the five paths, at which the same ACEs take part
abbrev short_of : Path → ShortPath
short_of here = Object
short_of (below zero File) = NewFile
short_of (below zero Directory) = NewDirectory
short_of (below (suc count) File) = FileInDirectory
short_of (below (suc count) Directory) = DirectoryInDirectory

-- it is the path itself for each of the five
short_is : (path : ShortPath) → short_of (path_of path) ≡ path
short_is Object = refl
short_is NewFile = refl
short_is NewDirectory = refl
short_is FileInDirectory = refl
short_is DirectoryInDirectory = refl

-- what is, is not what is not
not_twice : (b : Bool) → b ≡ not (not b)
not_twice true = refl
not_twice false = refl

-- an ACE takes part at a path if and only if the list there has it without INHERIT_ONLY
there : (path : Path) (flags : ℕ)
    → IsThere (takes_part_at (short_of path) flags) (has_bit flags identifier_group) (flags_at path flags)
there here flags = (not_twice (has_bit flags inherit_only), refl)
there (below zero File) flags = child_there File flags
there (below zero Directory) flags = child_there Directory flags
there (below (suc count) File) flags = passed_file _ _ _ (flags_below (suc count) flags) (passes_below flags count)
there (below (suc count) Directory) flags =
    passed_directory _ _ _ (flags_below (suc count) flags) (passes_below flags count)

-- ---- the list at a path, ACE by ACE

-- an ACE with these flags in front of a list, or the list
abbrev front : Ace → List Ace → Option ℕ → List Ace
front a list None = list
front a list (Some flags) = with_flags a flags ∷ list

-- what a child has from the first ACE is in front of what it has from the others
child_front : (kind : ChildKind) (a : Ace) (list : List Ace)
    → children kind (a ∷ list) ≡ front a (children kind list) (child_flags kind a.flags)
child_front kind a list = by (child_flags kind a.flags) refl
  where
    by : (o : Option ℕ) → child_flags kind a.flags ≡ o
        → children kind (a ∷ list) ≡ front a (children kind list) (child_flags kind a.flags)
    by None e = child_lacks kind a list e ∙ sym (rw e refl)
    by (Some f) e = child_has kind a list f e ∙ sym (rw e refl)

-- so it is if its directory has the ACE with some flags, or does not have it
front_child : (kind : ChildKind) (a : Ace) (list : List Ace) (o : Option ℕ)
    → children kind (front a list o) ≡ front a (children kind list) (child_of kind o)
front_child kind a list None = refl
front_child kind a list (Some f) = child_front kind (with_flags a f) list ∙ again (child_flags kind f)
  where
    again : (o : Option ℕ) → front (with_flags a f) (children kind list) o ≡ front a (children kind list) o
    again None = refl
    again (Some g) = refl

-- so it is in each new directory
front_below : (a : Ace) (list : List Ace) (count : ℕ)
    → directory_below (a ∷ list) count ≡ front a (directory_below list count) (flags_below count a.flags)
front_below a list zero = refl
front_below a list (suc count) = ap (children Directory) (front_below a list count)
    ∙ front_child Directory a (directory_below list count) (flags_below count a.flags)

-- so it is at each path
at_front : (path : Path) (a : Ace) (list : List Ace)
    → at (a ∷ list) path ≡ front a (at list path) (flags_at path a.flags)
at_front here a list = refl
at_front (below count kind) a list = ap (children kind) (front_below a list count)
    ∙ front_child kind a (directory_below list count) (flags_below count a.flags)

-- nothing comes from an empty list
none_below : (count : ℕ) → directory_below [] count ≡ []
none_below zero = refl
none_below (suc count) = ap (children Directory) (none_below count)

-- the list with each ACE at its place grants what the list at the path grants
same_at : (path : Path) (list : List Ace) (s : Situation) (bit : ℕ)
    → grants_bit (all_in_place (short_of path) list) s bit ≡ grants_bit (at list path) s bit
same_at here [] s bit = refl
same_at (below count kind) [] s bit =
    ap (λ v. grants_bit v s bit) (sym (ap (children kind) (none_below count)))
same_at path (a ∷ list) s bit =
    granted_first (in_place (short_of path) a) (all_in_place (short_of path) list) s bit
    ∙ by (same_at path list s bit) (takes_part_at (short_of path) a.flags) refl (flags_at path a.flags) (there path a.flags)
    ∙ ap (λ v. grants_bit v s bit) (sym (at_front path a list))
  where
    rest : Bool
    rest = grants_bit (all_in_place (short_of path) list) s bit

    -- without rights, it is not hit
    missed : takes_part_at (short_of path) a.flags ≡ false → is_hit (matches s) bit (in_place (short_of path) a) ≡ false
    missed out = rw (out, no_bit bit) refl

    takes : has_bit (bit_and a.flags 0xf7) 3 ≡ false
    takes = has_bit-and a.flags 0xf7 3 ∙ and_false_right (has_bit a.flags 3)

    group : has_bit (bit_and a.flags 0xf7) 6 ≡ has_bit a.flags 6
    group = has_bit-and a.flags 0xf7 6 ∙ and_true_right (has_bit a.flags 6)

    -- where it takes part, it is hit as it is hit there
    alike : (f : ℕ) → takes_part_at (short_of path) a.flags ≡ true → has_bit f inherit_only ≡ false
        → has_bit f identifier_group ≡ has_bit a.flags identifier_group
        → is_hit (matches s) bit (in_place (short_of path) a) ≡ is_hit (matches s) bit (with_flags a f)
    alike f part takes_there group_there = rw (part, takes, group, takes_there, group_there) refl

    -- where it takes no part, it is not hit there
    missed_there : (f : ℕ) → has_bit f inherit_only ≡ true → is_hit (matches s) bit (with_flags a f) ≡ false
    missed_there f out = rw (out, and_false_right (has_bit a.mask bit)) refl

    by : rest ≡ grants_bit (at list path) s bit → (part : Bool) → takes_part_at (short_of path) a.flags ≡ part
        → (o : Option ℕ) → IsThere (takes_part_at (short_of path) a.flags) (has_bit a.flags identifier_group) o
        → (if is_hit (matches s) bit (in_place (short_of path) a) then is_allow a.kind else rest)
        ≡ grants_bit (front a (at list path) o) s bit
    by ih part is None out = rw (missed out) ih
    by ih true is (Some f) (takes_there, group_there) =
        rw (alike f is (takes_there ∙ ap not is) group_there, ih)
        (sym (granted_first (with_flags a f) (at list path) s bit))
    by ih false is (Some f) (takes_there, group_there) =
        rw (missed is) (ih ∙ sym (granted_first (with_flags a f) (at list path) s bit
        ∙ rw (missed_there f (takes_there ∙ ap not is)) refl))

-- a list grants at most what another grants at a path if and only if it does so with each ACE at its place
at_most_at : (path : Path) (list other : List Ace) → AtMostAt list other path
    ↔ GrantsAtMost all_rights (all_in_place (short_of path) list) (all_in_place (short_of path) other)
at_most_at path list other = (
  λ most. (at_most_by_bits all_rights (all_in_place (short_of path) list) (all_in_place (short_of path) other)).1
      (λ s valid bit right granted. same_at path other s bit
      ∙ (at_most_by_bits all_rights (at list path) (at other path)).0
      most s valid bit right (sym (same_at path list s bit) ∙ granted)),
  λ most. (at_most_by_bits all_rights (at list path) (at other path)).1
      (λ s valid bit right granted. sym (same_at path other s bit)
      ∙ (at_most_by_bits all_rights (all_in_place (short_of path) list) (all_in_place (short_of path) other)).0
      most s valid bit right (same_at path list s bit ∙ granted)),
)

-- so it is at each of the five paths
pub at_most_in_place : (path : ShortPath) (list other : List Ace) → AtMostAt list other (path_of path)
    ↔ GrantsAtMost all_rights (all_in_place path list) (all_in_place path other)
at_most_in_place path list other = subst (λ v. AtMostAt list other (path_of path)
    ↔ GrantsAtMost all_rights (all_in_place v list) (all_in_place v other)) (short_is path)
    (at_most_at (path_of path) list other)

-- a list that grants at most what another does at the five paths does so at every path
pub five_at_most : (list other : List Ace) → ((path : ShortPath) → AtMostAt list other (path_of path))
    → AtMostEverywhere list other
five_at_most list other five path = (at_most_at path list other).1
    ((at_most_in_place (short_of path) list other).0 (five (short_of path)))
