-- What a reader of a part has read, and what a header without a fault says of the parts after it
-- (this library's own).
use Rattle.std.specs.Prelude.{ℕ, ◌+◌, ◌≤◌, List, [], ◌∷◌, ◌++◌, length, map, if◌then◌else◌, Option, None, Some, option_map}
use Rattle.acl_nt.specs.AceAt.{ace_size, type_decides}
use Rattle.acl_nt.specs.AclAt.{ace_count, acl_end, most_nt_aces}
use Rattle.acl_nt.specs.Descriptor.{Descriptor, NtAce, descriptor, entries, nt_ace, null}
use Rattle.acl_nt.specs.Sid.{Sid}
use Rattle.acl_nt.specs.declared.ace.OtherAce.{OtherAce}
use Rattle.acl_nt.specs.declared.acl_reader.Aces.{Aces}
use Rattle.acl_nt.specs.declared.role.Role.{Role}
use Rattle.acl_nt.specs.declared.descriptor.NtPart.{NtPart}

-- the ACEs that decide, and the others
abbrev pub aces : Aces → List NtAce × List OtherAce
aces a = (map nt_ace a.deciding.items, a.others.items)

-- the ACEs with one more: with the first of two if its type decides, and with the second if it does
-- not
abbrev pub aces_added : Role → List NtAce × List OtherAce → NtAce → OtherAce
    → List NtAce × List OtherAce
aces_added role a ace other =
    if type_decides role other.type_number then (a.0 ++ ace ∷ [], a.1) else (a.0, a.1 ++ other ∷ [])

-- the descriptor, and the ACEs of its DACL that do not decide
abbrev pub parts : NtPart → Descriptor × List OtherAce
parts p = (descriptor p.descriptor, p.left_out.items)

-- the ACE at a place has at least 16 bytes, and ends within its ACL
pub record IsRoomy (bytes : List ℕ) (at end : ℕ) : Type 0 where
  pub whole : at + 16 ≤ end
  pub next : at + ace_size bytes at ≤ end

-- the ACL at a place ends within the value, and has not too many ACEs
pub record FitsAcl (bytes : List ℕ) (at : ℕ) : Type 0 where
  pub header : at + 8 ≤ acl_end bytes at
  pub inside : acl_end bytes at ≤ length bytes
  pub count : ace_count bytes at ≤ most_nt_aces

-- the descriptor of these parts, and the ACEs of its DACL that do not decide
abbrev pub parts_of : ℕ → Option Sid → Option Sid → Option (List NtAce × List OtherAce)
    → Option (List NtAce × List OtherAce) → Descriptor × List OtherAce
parts_of control owner group sacl (Some read) = (
  record {
    control = control;
    owner = owner;
    group = group;
    dacl = entries read.0;
    sacl = option_map (λ (r : List NtAce × List OtherAce). r.1) sacl;
  },
  read.1,
)
parts_of control owner group sacl None = (
  record {
    control = control;
    owner = owner;
    group = group;
    dacl = null;
    sacl = option_map (λ (r : List NtAce × List OtherAce). r.1) sacl;
  },
  [],
)
