-- An ACL at a place of a value (MS-DTYP, section 2.4.5). The limit of its ACEs is this library's
-- own.
use Rattle.std.specs.Prelude.{ℕ, zero, suc, ◌+◌, ◌==◌, ◌&&◌, ◌||◌, not, List, [], ◌∷◌, ◌++◌, length, map, filter, nat_le}
use Rattle.std.specs.List.{flat_map}
use Rattle.acl_nt.specs.AceAt.{nt_ace_at, ace_conditions, ace_size, type_decides, other_at}
use Rattle.acl_nt.specs.Conditions.{Condition, check}
use Rattle.acl_nt.specs.Descriptor.{NtAce}
use Rattle.acl_nt.specs.Numbers.{byte_at, half_at}
use Rattle.acl_nt.specs.declared.ace.OtherAce.{OtherAce}
use Rattle.acl_nt.specs.declared.role.Role.{Role}
use Rattle.acl_nt.specs.declared.fault.NtReason.TheVariants.{AceCount, AclRevision, AclSbz, AclSize, Truncated}

-- the greatest number of ACEs
abbrev pub most_nt_aces : ℕ
most_nt_aces = 2000

-- the place of the end of the ACL at a place
abbrev pub acl_end : List ℕ → ℕ → ℕ
acl_end bytes at = at + half_at bytes (at + 2)

-- the number of ACEs of the ACL at a place
abbrev pub ace_count : List ℕ → ℕ → ℕ
ace_count bytes at = half_at bytes (at + 4)

-- the conditions on the header of the ACL at a place
unfoldable pub acl_header_conditions : List ℕ → ℕ → List Condition
acl_header_conditions bytes at =
    check (nat_le (at + 8) (length bytes)) at Truncated
    ∷ check ((byte_at bytes at == 2) || (byte_at bytes at == 4)) at AclRevision
    ∷ check (byte_at bytes (at + 1) == 0) (at + 1) AclSbz
    ∷ check (nat_le 8 (half_at bytes (at + 2)) && nat_le (acl_end bytes at) (length bytes))
    (at + 2) AclSize
    ∷ check (nat_le (ace_count bytes at) most_nt_aces) (at + 4) AceCount
    ∷ check (half_at bytes (at + 6) == 0) (at + 6) AclSbz ∷ []

-- the places of this many ACEs, the first of which is at this place: each begins at the end of the
-- one before it
unfoldable pub places : ℕ → List ℕ → ℕ → List ℕ
places zero bytes at = []
places (suc n) bytes at = at ∷ places n bytes (at + ace_size bytes at)

-- the places of the ACEs of the ACL at a place
abbrev pub ace_places : List ℕ → ℕ → List ℕ
ace_places bytes at = places (ace_count bytes at) bytes (at + 8)

-- the conditions on ACEs at these places of an ACL that ends at this place
abbrev pub aces_conditions : Role → List ℕ → ℕ → List ℕ → List Condition
aces_conditions role bytes end list = flat_map (ace_conditions role bytes end) list

-- the conditions on the ACL at a place
unfoldable pub acl_conditions : Role → List ℕ → ℕ → List Condition
acl_conditions role bytes at =
    acl_header_conditions bytes at
    ++ aces_conditions role bytes (acl_end bytes at) (ace_places bytes at)

-- the ACEs at these places that decide
abbrev pub deciding_aces : Role → List ℕ → List ℕ → List NtAce
deciding_aces role bytes list =
    map (nt_ace_at bytes) (filter (λ at. type_decides role (byte_at bytes at)) list)

-- the other ACEs at these places
abbrev pub other_nt_aces : Role → List ℕ → List ℕ → List OtherAce
other_nt_aces role bytes list =
    map (other_at bytes) (filter (λ at. not (type_decides role (byte_at bytes at))) list)

-- the ACEs at these places: those that decide, and the others
abbrev pub nt_aces_at : Role → List ℕ → List ℕ → List NtAce × List OtherAce
nt_aces_at role bytes list = (deciding_aces role bytes list, other_nt_aces role bytes list)
