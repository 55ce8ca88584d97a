-- The MASK that a list gets if it has USER or GROUP entries and no MASK, as `acl_calc_mask` of libacl makes it and
-- `setfacl -m` calls it: the union of the permissions of the file group class (POSIX.1e draft 17, section 23.4.1).
use Rattle.std.specs.Prelude.{ℕ, ◌≡◌, ◌⊎◌, Bool, true, false, not, ◌&&◌, List, [], ◌∷◌, ◌++◌, if◌then◌else◌}
use Rattle.std.specs.List.{list_any}
use Rattle.acl_posix.specs.declared.fault.AclFault.TheVariants.{Memory}
use Rattle.acl_posix.specs.declared.raw_entry.RawEntry.{RawEntry}
use Rattle.acl_posix.specs.declared.raw_entry.EntriesFault.{EntriesFault}
use Rattle.acl_posix.specs.declared.raw_entry.EntriesFault.TheVariants as list
use Rattle.acl_posix.specs.RawEntries.{AreEntries, IsFirstWrong, raw_pairs}
use Rattle.acl_posix.specs.Valid.{IsFaultOf, IsValidList}
use Rattle.acl_posix.specs.Tag.{Tag, user_obj, user, group_obj, group, mask, other, is_named}
use Rattle.acl_posix.specs.Mask.{class_union}

-- the tag is MASK
abbrev pub is_mask : Tag → Bool
is_mask user_obj = false
is_mask (user id) = false
is_mask group_obj = false
is_mask (group id) = false
is_mask mask = true
is_mask other = false

-- there is a USER or GROUP entry, and no MASK
abbrev pub lacks_mask : List (Tag × ℕ) → Bool
lacks_mask entries =
    list_any (λ entry. is_named entry.0) entries && not (list_any (λ entry. is_mask entry.0) entries)

-- the list with the MASK that it lacks as its last entry, if it lacks one
abbrev pub with_missing_mask : List (Tag × ℕ) → List (Tag × ℕ)
with_missing_mask entries = if lacks_mask entries then entries ++ (mask, class_union entries) ∷ [] else entries

-- ---- raw entries

-- the numbers are those of entries, which are a valid list with the MASK that they lack
pub record IsValidWithMask (raws : List RawEntry) : Type 0 where
  pub entries : AreEntries raws
  pub valid : IsValidList (with_missing_mask (raw_pairs raws))

-- what each fault says about raw entries: the first entry with wrong numbers, or what is wrong with the list with the
-- MASK that it lacks
abbrev pub IsFaultOfRawWithMask : List RawEntry → EntriesFault → Type 0
IsFaultOfRawWithMask raws (list.Entry place fault) = IsFirstWrong raws place fault
IsFaultOfRawWithMask raws (list.Acl fault) =
    (fault ≡ Memory) ⊎ (AreEntries raws × IsFaultOf (with_missing_mask (raw_pairs raws)) fault)
