-- Security descriptors (MS-DTYP, section 2.4.6) and the ACEs of their DACL (sections 2.4.4 and
-- 2.4.5).
use Rattle.std.specs.Prelude.{ℕ, List, map, Option, option_map}
use Rattle.std.specs.Global.{Vec}
use Rattle.acl_perm.specs.declared.kind.Kind.{Kind}
use Rattle.acl_nt.specs.Sid.{Sid, sid}
use Rattle.acl_nt.specs.declared.ace.NtAce.{NtAce as AceOfCode}
use Rattle.acl_nt.specs.declared.ace.OtherAce.{OtherAce}
use Rattle.acl_nt.specs.declared.descriptor.Dacl.{Dacl as DaclOfCode}
use Rattle.acl_nt.specs.declared.descriptor.Dacl.TheVariants as of_code
use Rattle.acl_nt.specs.declared.descriptor.NtDescriptor.{NtDescriptor}

-- an ACE that allows or denies: its kind, its flags, its rights, and whom it names
pub record NtAce : Type 0 where
  pub kind : Kind
  pub flags : ℕ
  pub mask : ℕ
  pub sid : Sid

-- the list that decides: none, which grants everything, or these ACEs in order
pub data Dacl : Type 0 where
  null : Dacl
  entries : (aces : List NtAce) → Dacl

-- the control bits, the owner and the group if there are any, the DACL, and the ACEs of the SACL if
-- there is one
pub record Descriptor : Type 0 where
  pub control : ℕ
  pub owner : Option Sid
  pub group : Option Sid
  pub dacl : Dacl
  pub sacl : Option (List OtherAce)

-- ---- as the code holds them

-- the ACE of an `NtAce`
abbrev pub nt_ace : AceOfCode → NtAce
nt_ace a = record { kind = a.kind; flags = a.flags; mask = a.mask; sid = sid a.sid }

-- the list of a `Dacl`
abbrev pub dacl : DaclOfCode → Dacl
dacl of_code.Null = null
dacl (of_code.List aces) = entries (map nt_ace aces.items)

-- the descriptor of an `NtDescriptor`
abbrev pub descriptor : NtDescriptor → Descriptor
descriptor d = record {
  control = d.control;
  owner = option_map sid d.owner;
  group = option_map sid d.group;
  dacl = dacl d.dacl;
  sacl = option_map (λ (aces : Vec OtherAce). aces.items) d.sacl;
}
