-- Entries as three plain numbers, as programs in other languages pass them: a tag type, an id, and permissions (acl(5),
-- "ACL ENTRIES"). The numbers of the tag types, and the order in which faults are judged, are this library's own.
use Rattle.std.specs.Prelude.{ℕ, ◌≡◌, ◌<◌, List, length, get_or, map, Option, Some, None, unwrap_or, nat_lt, ◌+◌, ◌⊎◌, ◌&&◌, ◌||◌, ◌==◌, if◌then◌else◌}
use Rattle.std.specs.Option.{option_or}
use Rattle.acl_perm.specs.Bits.{all_permissions}
use Rattle.acl_posix.specs.declared.fault.AclFault.TheVariants.{Memory}
use Rattle.acl_posix.specs.declared.raw_entry.RawEntry.{RawEntry}
use Rattle.acl_posix.specs.declared.raw_entry.EntryFault.{EntryFault}
use Rattle.acl_posix.specs.declared.raw_entry.EntryFault.TheVariants as wrong
use Rattle.acl_posix.specs.declared.raw_entry.EntriesFault.{EntriesFault}
use Rattle.acl_posix.specs.declared.raw_entry.EntriesFault.TheVariants as list
use Rattle.acl_posix.specs.Id.{greatest_id}
use Rattle.acl_posix.specs.Tag.{Tag, user_obj, user, group_obj, group, mask, other, is_named, rank, tag_row}
use Rattle.acl_posix.specs.Valid.{IsFaultOf, IsValidList}

-- the number of a tag type, from 1 to 6 in canonical order
abbrev pub raw_tag_number : Tag → ℕ
raw_tag_number tag = rank tag + 1

-- the greatest number of a tag type
abbrev pub last_tag_number : ℕ
last_tag_number = 6

-- the number that stands for no tag type
abbrev pub no_tag_number : ℕ
no_tag_number = 0

-- the number that stands for no id
abbrev pub undefined_id : ℕ
undefined_id = 4294967295

-- the numbers of an entry; the id of an entry without a qualifier is undefined
abbrev pub raw_of : Tag × ℕ → RawEntry
raw_of entry = record {
  tag = raw_tag_number entry.0;
  id = unwrap_or (tag_row entry.0).qualifier undefined_id;
  perm = entry.1;
}

-- the tag with a number and a qualifier
abbrev pub numbered_tag : ℕ → ℕ → Tag
numbered_tag number id =
    if number == 1 then user_obj
    else (if number == 2 then user id
    else (if number == 3 then group_obj
    else (if number == 4 then group id
    else (if number == 5 then mask
    else other))))

-- the tag of three numbers
abbrev pub raw_tag : RawEntry → Tag
raw_tag raw = numbered_tag raw.tag raw.id

-- the entry that three numbers mean, if `entry_fault` finds nothing wrong with them
abbrev pub raw_pair : RawEntry → Tag × ℕ
raw_pair raw = (raw_tag raw, raw.perm)

-- the entries that the numbers of a list mean
abbrev pub raw_pairs : List RawEntry → List (Tag × ℕ)
raw_pairs raws = map raw_pair raws

-- what is wrong with the tag: its number is none of 1 to 6, or it is USER or GROUP and the id is not an id
abbrev pub tag_fault : RawEntry → Option EntryFault
tag_fault raw =
    if (raw.tag == no_tag_number) || nat_lt last_tag_number raw.tag then Some wrong.Tag
    else (if is_named (raw_tag raw) && nat_lt greatest_id raw.id then Some wrong.Id
    else None)

-- what is wrong with the permissions: they have another bit than read, write and execute
abbrev pub perm_fault : RawEntry → Option EntryFault
perm_fault raw = if nat_lt all_permissions raw.perm then Some wrong.Perm else None

-- what is wrong with the numbers of an entry: first with the tag, then with the permissions
abbrev pub entry_fault : RawEntry → Option EntryFault
entry_fault raw = option_or (tag_fault raw) (perm_fault raw)

-- what is wrong with the numbers of the entry at a place, counted from 0
abbrev pub entry_fault_at : List RawEntry → ℕ → Option EntryFault
entry_fault_at raws place = get_or (map entry_fault raws) place None

-- nothing is wrong with the numbers of any entry
abbrev pub AreEntries : List RawEntry → Type 0
AreEntries raws = (place : ℕ) → place < length raws → entry_fault_at raws place ≡ None

-- this is wrong with the numbers of the entry at this place, and nothing with those of the entries before it
pub record IsFirstWrong (raws : List RawEntry) (place : ℕ) (fault : EntryFault) : Type 0 where
  pub in_range : place < length raws
  pub wrong : entry_fault_at raws place ≡ Some fault
  pub first : (before : ℕ) → before < place → entry_fault_at raws before ≡ None

-- the numbers of a list are those of entries, and the entries are a valid list
pub record IsValidRaw (raws : List RawEntry) : Type 0 where
  pub entries : AreEntries raws
  pub valid : IsValidList (raw_pairs raws)

-- what each fault says about a list: the first entry with wrong numbers, or what is wrong with the list of entries
abbrev pub IsFaultOfRaw : List RawEntry → EntriesFault → Type 0
IsFaultOfRaw raws (list.Entry place fault) = IsFirstWrong raws place fault
IsFaultOfRaw raws (list.Acl fault) = (fault ≡ Memory) ⊎ (AreEntries raws × IsFaultOf (raw_pairs raws) fault)
