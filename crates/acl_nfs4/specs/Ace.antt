-- An ACE (RFC 8881, section 6.2.1) without the place of its who in memory.
use Rattle.std.specs.Prelude.{ℕ, List}
use Rattle.acl_perm.specs.declared.kind.Kind.{Kind}
use Rattle.acl_nfs4.specs.declared.ace.AceRef.{AceRef}

-- a kind, a set of flags, a set of rights and a who
pub record Ace : Type 0 where
  pub kind : Kind
  pub flags : ℕ
  pub mask : ℕ
  pub who : List ℕ

-- the ACE of an `AceRef`
abbrev pub ace : AceRef → Ace
ace a = record { kind = a.kind; flags = a.flags.bits; mask = a.mask.bits; who = a.who.now }
