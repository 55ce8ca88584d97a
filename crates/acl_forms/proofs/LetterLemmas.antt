-- What fields of letters stand for.
use Rattle.std.proofs.Common.{◌≡◌, ◌∙◌, ◌+◌, ◌≤◌, ◌<◌, ℕ, Bool, true, false, cond, length, drop, get_or, List, [], ◌∷◌, None, Some, Result, Ok, Err, refl, sym, ap}
use Rattle.std.specs.Prelude.{◌&&◌, ◌==◌, bit_and, bit_or, filter_map, find, fold}
use Rattle.std.specs.List.{list_all}
use Rattle.std.specs.Result.{result_err, result_ok}
use Rattle.std.proofs.lemmas.Bool.{eqb-true}
use Rattle.std.proofs.lemmas.List.{at_drop_all, at_drop_more}
use Rattle.std.proofs.lemmas.Nat.{and_le_r}
use Rattle.acl_perm.proofs.Bools.{and_true}
use Rattle.acl_perm.specs.Bits.{all_flags, all_rights, IsFlags, IsMask}
use Rattle.acl_perm.specs.internal.Steps.{◌>>=◌}
use Rattle.acl_nfs4.specs.Within.{is_within, IsWithin}
use Rattle.acl_nfs4.proofs.Exports.{union_within}
use Rattle.acl_forms.specs.Letters.{bits_of_each, flag_letters, letter_bits, nfs_flag_letters, nfs_right_letters, no_letter, right_letters, row_bits, set_of_letters, unless_faults}
use Rattle.acl_forms.specs.ReadFaults.{read_fault_at}
use Rattle.acl_forms.specs.declared.fault.ReadFault.{ReadFault}
use Rattle.acl_forms.specs.declared.fault.ReadReason.{ReadReason}
use Rattle.acl_forms.specs.declared.fault.ReadReason.TheVariants.{NotDirectory}
use Rattle.acl_forms.specs.declared.letters.Letter.{Letter}
use Rattle.acl_forms.specs.declared.object.ObjectKind.{ObjectKind}
use Rattle.acl_forms.specs.declared.object.ObjectKind.TheVariants.{File, Directory}
use Rattle.acl_forms.specs.internal.LetterReading.{letters_from}

-- ---- sets within sets

-- both sets of a row are within a whole
abbrev pub is_row_within : ℕ → Letter → Bool
is_row_within whole row = is_within whole row.bits && is_within whole row.on_files

-- the row that is found passes a test that all rows pass
pub found_passes : (test wanted : Letter → Bool) (table : List Letter) (row : Letter) → list_all test table ≡ true
    → find wanted table ≡ Some row → test row ≡ true
found_passes test wanted [] row all e = absurd cc
found_passes test wanted (first ∷ table) row all e =
    let both = and_true (test first) (list_all test table) all in
    elim (wanted first) as (λ b. cond b (Some first) (find wanted table) ≡ Some row → test row ≡ true) [
      | true ↦ λ same. let is : first ≡ row = cc in ap test (sym is) ∙ both.0
      | false ↦ λ later. found_passes test wanted table row both.1 later
    ] e

-- the bits for which a row stands are within a whole
bits_within : (whole : ℕ) (object : ObjectKind) (wrong : ReadReason) (at bits : ℕ) (row : Letter)
    → is_row_within whole row ≡ true → row_bits object wrong at (Some row) ≡ Ok bits → IsWithin whole bits
bits_within whole Directory wrong at bits row t e =
    let is : row.bits ≡ bits = cc in
    rw (← is) (eqb-true _ _ (and_true (is_within whole row.bits) (is_within whole row.on_files) t).0)
bits_within whole File wrong at bits row t e =
    elim (row.on_files == 0)
    as (λ b. cond b (Err (read_fault_at at NotDirectory)) (Ok row.on_files) ≡ Ok bits → IsWithin whole bits) [
      | true ↦ λ no. absurd cc
      | false ↦ λ same.
          let is : row.on_files ≡ bits = cc in
          rw (← is) (eqb-true _ _ (and_true (is_within whole row.bits) (is_within whole row.on_files) t).1)
    ] e

-- the bits for which a letter stands are within a whole
letter_within : (whole : ℕ) (table : List Letter) (object : ObjectKind) (wrong : ReadReason) (at letter bits : ℕ)
    → list_all (is_row_within whole) table ≡ true → letter_bits table object wrong at letter ≡ Ok bits
    → IsWithin whole bits
letter_within whole table object wrong at letter bits all e =
    elim (find (λ (row : Letter). row.letter == letter) table)
    as (λ o. find (λ (row : Letter). row.letter == letter) table ≡ o → row_bits object wrong at o ≡ Ok bits
    → IsWithin whole bits) [
      | None ↦ λ none is. absurd cc
      | Some row ↦ λ found is. bits_within whole object wrong at bits row
          (found_passes (is_row_within whole) (λ (r : Letter). r.letter == letter) table row all found) is
    ] refl e

-- the set for which a field stands is within a whole
pub letters_within : (whole : ℕ) (table : List Letter) (object : ObjectKind) (wrong : ReadReason) (at set : ℕ)
    (letters : List ℕ) (all : ℕ) → list_all (is_row_within whole) table ≡ true → IsWithin whole set
    → letters_from table object wrong at set letters ≡ Ok all → IsWithin whole all
unfolding letters_from
letters_within whole table object wrong at set [] all rows inside e = let is : set ≡ all = cc in rw (← is) inside
letters_within whole table object wrong at set (letter ∷ letters) all rows inside e =
    elim (letter_bits table object wrong at letter) as (λ r. letter_bits table object wrong at letter ≡ r
    → (r >>= λ bits. letters_from table object wrong (at + 1) (bit_or set bits) letters) ≡ Ok all
    → IsWithin whole all) [
      | Ok bits ↦ λ is more. letters_within whole table object wrong (at + 1) (bit_or set bits) letters all rows
          (union_within whole set bits inside (letter_within whole table object wrong at letter bits rows is)) more
      | Err fault ↦ λ is more. absurd cc
    ] refl e

-- ---- one letter after the other gives what all letters give

-- the letters that are read after a set give the union of their sets with it, or the first fault
union_after : (table : List Letter) (object : ObjectKind) (wrong : ReadReason) (at set : ℕ) (letters : List ℕ)
    → unless_faults (filter_map result_err (bits_of_each table object wrong at letters))
    (fold bit_or set (filter_map result_ok (bits_of_each table object wrong at letters)))
    ≡ letters_from table object wrong at set letters
unfolding letters_from
union_after table object wrong at set [] = refl
union_after table object wrong at set (letter ∷ letters) =
    let others = bits_of_each table object wrong (at + 1) letters in
    elim (letter_bits table object wrong at letter)
    as (λ r. unless_faults (filter_map result_err (r ∷ others)) (fold bit_or set (filter_map result_ok (r ∷ others)))
    ≡ (r >>= λ bits. letters_from table object wrong (at + 1) (bit_or set bits) letters)) [
      | Ok bits ↦ union_after table object wrong (at + 1) (bit_or set bits) letters
      | Err fault ↦ refl
    ]

-- the set for which letters stand is that of the letters one after the other
pub letters_union : (table : List Letter) (object : ObjectKind) (wrong : ReadReason) (at : ℕ) (letters : List ℕ)
    → set_of_letters table object wrong at letters ≡ letters_from table object wrong at 0 letters
unfolding set_of_letters
letters_union table object wrong at letters = union_after table object wrong at 0 letters

-- ---- what the letters of a table stand for

-- the letters of rights stand for a mask
pub rights_mask : (object : ObjectKind) (wrong : ReadReason) (at : ℕ) (letters : List ℕ) (mask : ℕ)
    → Ok mask ≡ set_of_letters right_letters object wrong at letters → IsMask mask
rights_mask object wrong at letters mask e =
    letters_within all_rights right_letters object wrong at 0 letters mask refl refl
    (sym (e ∙ letters_union _ object wrong at letters))

-- the letters of flags stand for a byte
pub flags_small : (object : ObjectKind) (wrong : ReadReason) (at : ℕ) (letters : List ℕ) (flags : ℕ)
    → Ok flags ≡ set_of_letters flag_letters object wrong at letters → IsFlags flags
flags_small object wrong at letters flags e =
    let inside = letters_within all_flags flag_letters object wrong at 0 letters flags refl refl
    (sym (e ∙ letters_union _ object wrong at letters)) in
    let le : bit_and flags all_flags ≤ all_flags = and_le_r flags all_flags in rw inside at le

-- the letters of rights of FreeBSD stand for a mask
pub nfs_rights_mask : (object : ObjectKind) (wrong : ReadReason) (at : ℕ) (letters : List ℕ) (mask : ℕ)
    → Ok mask ≡ set_of_letters (nfs_right_letters no_letter) object wrong at letters → IsMask mask
nfs_rights_mask object wrong at letters mask e =
    letters_within all_rights (nfs_right_letters no_letter) object wrong at 0 letters mask refl refl
    (sym (e ∙ letters_union _ object wrong at letters))

-- the letters of flags of FreeBSD stand for a byte
pub nfs_flags_small : (object : ObjectKind) (wrong : ReadReason) (at : ℕ) (letters : List ℕ) (flags : ℕ)
    → Ok flags ≡ set_of_letters (nfs_flag_letters no_letter) object wrong at letters → IsFlags flags
nfs_flags_small object wrong at letters flags e =
    let inside =
    letters_within all_flags (nfs_flag_letters no_letter) object wrong at 0 letters flags refl refl
    (sym (e ∙ letters_union _ object wrong at letters)) in
    let le : bit_and flags all_flags ≤ all_flags = and_le_r flags all_flags in rw inside at le

-- ---- one letter after the other

-- a letter that is refused is the fault of the letters from it on
pub letters_fail : (table : List Letter) (object : ObjectKind) (wrong : ReadReason) (at set i : ℕ) (letters : List ℕ)
    (fault : ReadFault) → i < length letters → Err fault ≡ letter_bits table object wrong at (get_or letters i 0)
    → Err fault ≡ letters_from table object wrong at set (drop i letters)
unfolding letters_from
letters_fail table object wrong at set i letters fault lt e =
    sym (at_drop_more (letters_from table object wrong at set) letters i 0 lt
    ∙ ap (λ (r : Result ℕ ReadFault). r >>= λ bits. letters_from table object wrong (at + 1) (bit_or set bits)
    (drop (i + 1) letters)) (sym e))

-- the letters from a place on are the letter there and the others
pub letters_next : (table : List Letter) (object : ObjectKind) (wrong : ReadReason) (at set i : ℕ) (letters : List ℕ)
    (bits : ℕ) → i < length letters → Ok bits ≡ letter_bits table object wrong at (get_or letters i 0)
    → letters_from table object wrong at set (drop i letters)
    ≡ letters_from table object wrong (at + 1) (bit_or set bits) (drop (i + 1) letters)
unfolding letters_from
letters_next table object wrong at set i letters bits lt e =
    at_drop_more (letters_from table object wrong at set) letters i 0 lt
    ∙ ap (λ (r : Result ℕ ReadFault). r >>= λ n. letters_from table object wrong (at + 1) (bit_or set n)
    (drop (i + 1) letters)) (sym e)

-- after all letters the set is complete
pub letters_done : (table : List Letter) (object : ObjectKind) (wrong : ReadReason) (at set i : ℕ) (letters : List ℕ)
    → length letters ≤ i → Ok set ≡ letters_from table object wrong at set (drop i letters)
unfolding letters_from
letters_done table object wrong at set i letters le =
    sym (at_drop_all (letters_from table object wrong at set) letters i le)
