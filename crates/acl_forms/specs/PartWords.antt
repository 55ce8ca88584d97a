-- The bytes of lists of ACEs of any type in nfsacl41 and nfsacl41i: the layouts of Acl41 and Acl41Ids with each type of
-- RFC 8881, section 6.2.1.1, and each special identifier, but for a DENY of one that nobody knows. How a special number
-- without a meaning is named is this library's own.
use Rattle.std.specs.Prelude.{◌≡◌, ◌==◌, ℕ, ◌+◌, ◌<◌, ◌≤◌, ◌^◌, List, [], ◌∷◌, ◌++◌, codes, count_ones, false, length, replicate, sum_by, if◌then◌else◌, Result, Ok, Err}
use Rattle.std.specs.Fmt.{decimal}
use Rattle.std.specs.List.{AllByRecursion, flat_map}
use Rattle.acl_perm.specs.Bits.{all_flags, all_rights}
use Rattle.acl_perm.specs.Profile.{full}
use Rattle.acl_perm.specs.internal.Steps.{◌>>=◌}
use Rattle.acl_posix.specs.Id.{IsId}
use Rattle.acl_nfs4.specs.AccessPart.{AnyAce, IsAnyAce, any_piece}
use Rattle.acl_nfs4.specs.Fields.{flags_of, mask_of, padding_of, who_len_of}
use Rattle.acl_nfs4.specs.Layout.{Field, bytes_field, number_field}
use Rattle.acl_nfs4.specs.Limits.{most_aces, most_weight}
use Rattle.acl_nfs4.specs.PartFault.{any_who_of, type_of}
use Rattle.acl_nfs4.specs.Spelling.{pad_len, word}
use Rattle.acl_nfs4.specs.Who.{everyone_name, group_name, owner_name}
use Rattle.acl_nfs4.specs.Within.{IsWithin}
use Rattle.acl_nfs4.specs.declared.xdr.fault.Reason.TheVariants.{SpecialWho}
use Rattle.acl_forms.specs.AclFields.{IsAclFault, acl_fields}
use Rattle.acl_forms.specs.AclFlags.{IsAclFlags}
use Rattle.acl_forms.specs.Acl41Ids.{fields_of_words, id_who}
use Rattle.acl_forms.specs.Part.{PlacedAce, is_unknown_deny}
use Rattle.acl_forms.specs.Words.{head_size, listed}
use Rattle.acl_forms.specs.declared.fault.ReadFault.{ReadFault}
use Rattle.acl_forms.specs.declared.fault.ReadReason.{ReadReason}
use Rattle.acl_forms.specs.declared.fault.ReadReason.TheVariants as reason

-- ---- the bytes of an ACE

-- the name of a special identifier by its number; a number above three has a name that no list names
abbrev pub special_identifier : ℕ → List ℕ
special_identifier n = if n == 1 then owner_name
    else (if n == 2 then group_name
    else (if n == 3 then everyone_name else codes "special " ++ decimal n ++ codes "@"))

-- two words name a who: 1 and the number of a special identifier, or 0 and an id
pub data Names : ℕ → ℕ → List ℕ → Type 0 where
  by_special : (n : ℕ) → n < 2 ^ 32 → Names 1 n (special_identifier n)
  by_id : (id : ℕ) → IsId id → Names 0 id (decimal id)

-- the bytes spell the ACE in nfsacl41
pub record SpellsByName (a : AnyAce) (bytes : List ℕ) : Type 0 where
  pub is : IsAnyAce full a
  pub spelled : bytes ≡ any_piece a

-- the bytes spell the ACE in nfsacl41i
pub record SpellsById (a : AnyAce) (bytes : List ℕ) : Type 0 where
  pub special : ℕ
  pub number : ℕ
  pub type_number : a.type_number < 4
  pub flags : IsWithin all_flags a.flags
  pub mask : IsWithin all_rights a.mask
  pub who : Names special number a.who
  pub spelled : bytes ≡ word a.type_number ++ (word a.flags ++ (word special ++ (word a.mask ++ word number)))

-- ---- the bytes of a list

-- an ACE and its bytes
pub record SpelledAce : Type 0 where
  pub ace : AnyAce
  pub bytes : List ℕ

-- each ACE with the place of its first byte, if the bytes of the first ACE are at this place
unfoldable pub placed_from : ℕ → List SpelledAce → List PlacedAce
placed_from at [] = []
placed_from at (s ∷ list) = record { ace = s.ace; offset = at } ∷ placed_from (at + length s.bytes) list

-- the bytes spell the ACE, and it may be in a list
pub record IsPartAce (Spells : AnyAce → List ℕ → Type 0) (s : SpelledAce) : Type 0 where
  pub spells : Spells s.ace s.bytes
  pub known : is_unknown_deny s.ace.type_number s.ace.who ≡ false

-- the flags are those of the standard, the list is within the limits of this library, and these are the bytes: the word
-- of the flags, the word of the list's length, and the bytes of its ACEs
pub record SpellsAces (Spells : AnyAce → List ℕ → Type 0) (set : ℕ) (list : List SpelledAce) (bytes : List ℕ)
    : Type 0 where
  pub flags : IsAclFlags set
  pub count : length list ≤ most_aces
  pub weight : sum_by (λ s. count_ones s.ace.mask) list ≤ most_weight
  pub each : AllByRecursion (IsPartAce Spells) list
  pub spelled : bytes ≡ word set ++ (word (length list) ++ flat_map (λ s. s.bytes) list)

-- the bytes spell flags and these ACEs, each at its place; the first one is after two words
abbrev pub SpellsWhole : (AnyAce → List ℕ → Type 0) → ℕ → List PlacedAce → List ℕ → Type 0
SpellsWhole Spells set list bytes =
    (spelled : List SpelledAce) × (list ≡ placed_from head_size spelled) × SpellsAces Spells set spelled bytes

-- ---- the first fault of bytes

-- the who of an ACE of this type, unless nobody knows whom a DENY names
abbrev pub unless_unknown : ℕ → List ℕ → Result (List ℕ) ReadReason
unless_unknown type_number who =
    if is_unknown_deny type_number who then Err (reason.List SpecialWho) else Ok who

-- the who that bytes are in an ACE of this type, or why they are refused
abbrev pub who_by_name : ℕ → List ℕ → Result (List ℕ) ReadReason
who_by_name type_number bytes = listed (any_who_of bytes) >>= λ who. unless_unknown type_number who

-- the who of a number in an ACE of this type, or why the number is refused
abbrev pub who_by_number : ℕ → ℕ → ℕ → Result (List ℕ) ReadReason
who_by_number type_number special n =
    if special == 1 then unless_unknown type_number (special_identifier n) else id_who n

-- the fields of an ACE in nfsacl41 after ACEs of this weight: its type, its flags, its mask, the length of its who, its
-- who and its padding
abbrev pub fields_by_name : ℕ → AnyAce → List (Field ReadReason)
fields_by_name weight a = number_field (λ n. listed (type_of n)) a.type_number
    ∷ number_field (λ n. listed (flags_of full n)) a.flags
    ∷ number_field (λ n. listed (mask_of full weight n)) a.mask
    ∷ number_field (λ n. listed (who_len_of n)) (length a.who)
    ∷ bytes_field (who_by_name a.type_number) a.who
    ∷ bytes_field (λ b. listed (padding_of b)) (replicate (pad_len (length a.who)) 0) ∷ []

-- the bytes spell no flags and ACEs, whose fields are these, and this is their first fault
abbrev pub IsFaultOfWhole : {A : Type 0} → (ℕ → List A → List (Field ReadReason)) → (AnyAce → List ℕ → Type 0) → List ℕ
    → ReadFault → Type 0
IsFaultOfWhole fields Spells bytes fault =
    IsAclFault fields (λ text. (set : ℕ) × (list : List PlacedAce) × SpellsWhole Spells set list text) bytes fault

-- the bytes spell no flags and ACEs in nfsacl41, and this is their first fault
abbrev pub IsFaultByName : List ℕ → ReadFault → Type 0
IsFaultByName bytes fault = IsFaultOfWhole (acl_fields fields_by_name (λ a. a.mask)) SpellsByName bytes fault

-- the bytes spell no flags and ACEs in nfsacl41i, and this is their first fault
abbrev pub IsFaultByNumber : List ℕ → ReadFault → Type 0
IsFaultByNumber bytes fault =
    IsFaultOfWhole (acl_fields (fields_of_words type_of who_by_number) (λ a. a.mask)) SpellsById bytes fault
