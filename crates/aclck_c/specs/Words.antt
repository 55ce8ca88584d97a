-- Names of rights and of reasons in calls from C (this library's own).
use Rattle.std.specs.Prelude.{◌==◌, ◌∷◌, [], ℕ, List, None, Option, Some, codes, if◌then◌else◌}
use Rattle.std.specs.Str.{bytes_eq}
use Rattle.acl_nfs4.specs.BitNames.{set_text}
use Rattle.acl_nfs4.specs.Rights.{SpellsMask, rights}

-- the text names a mask
abbrev pub NamesMask : List ℕ → Type 0
NamesMask text = (mask : ℕ) × SpellsMask text mask

-- the names of the rights of a mask (RFC 8881, section 6.2.1.3.1), in ascending order of their bits, with `|` between
-- them; `-` for none
abbrev pub rights_text : ℕ → List ℕ
rights_text mask = set_text rights mask

-- the reasons of `enum aclck_reason` by their numbers, with the names that the program prints
abbrev pub reasons : List (ℕ × List ℕ)
reasons = (1, codes "Truncated") ∷ (2, codes "TooManyAces") ∷ (3, codes "AuditOrAlarm") ∷ (4, codes "AceType")
    ∷ (5, codes "FlagBits") ∷ (6, codes "MaskBits") ∷ (7, codes "TooHeavy") ∷ (8, codes "WhoLength")
    ∷ (9, codes "WhoUtf8") ∷ (10, codes "WhoControl") ∷ (11, codes "SpecialWho") ∷ (12, codes "Padding")
    ∷ (13, codes "TrailingBytes") ∷ (14, codes "Read") ∷ (15, codes "Memory") ∷ (16, codes "Fields")
    ∷ (17, codes "Flag") ∷ (18, codes "Mask") ∷ (19, codes "Tag") ∷ (20, codes "Qualifier") ∷ (21, codes "Id")
    ∷ (22, codes "UnknownName") ∷ (23, codes "Permission") ∷ (24, codes "EmptyEntry") ∷ (25, codes "Multi")
    ∷ (26, codes "Duplicate") ∷ (27, codes "Miss") ∷ (28, codes "Limits") ∷ (29, codes "Size")
    ∷ (30, codes "Version") ∷ (31, codes "Order") ∷ (32, codes "Merged") ∷ (33, codes "AclFlagBits")
    ∷ (34, codes "IflagBits") ∷ (35, codes "NotDirectory") ∷ (36, codes "Empty") ∷ (37, codes "IdDiffers")
    ∷ (38, codes "Comment") ∷ (39, codes "Nul") ∷ (40, codes "TooLong") ∷ (41, codes "NoId") ∷ (42, codes "Inherited")
    ∷ (43, codes "Retention") ∷ (44, codes "Separator") ∷ (45, codes "AclFlags") ∷ (46, codes "TooMany") ∷ []

-- the name of a number in a table of names
abbrev pub name_in : List (ℕ × List ℕ) → ℕ → Option (List ℕ)
name_in [] number = None
name_in (reason ∷ more) number = if number == reason.0 then Some reason.1 else name_in more number

-- the name of the reason of a number
abbrev pub reason_name : ℕ → Option (List ℕ)
reason_name number = name_in reasons number

-- the number of a name in a table of names
abbrev pub number_in : List (ℕ × List ℕ) → List ℕ → ℕ
number_in [] name = 0
number_in (reason ∷ more) name = if bytes_eq name reason.1 then reason.0 else number_in more name

-- the number of the reason with a name
abbrev pub reason_called : List ℕ → ℕ
reason_called name = number_in reasons name
