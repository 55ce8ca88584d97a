-- What programs make of the bytes of a list or of the text of a file, defined once for all of them (this library's own,
-- over RFC 8881, section 6.2.1, and acl(5)).
use Rattle.std.specs.Prelude.{◌↔◌, ℕ, Bool, IsTrue, List}
use Rattle.acl_perm.specs.Profile.{Profile, full}
use Rattle.acl_perm.specs.Situation.{Situation}
use Rattle.acl_posix.specs.declared.file.PosixFile.{PosixFile}
use Rattle.acl_nfs4.specs.Ace.{Ace}
use Rattle.acl_nfs4.specs.Spelling.{IsAccepted, Xdr, spelling}
use Rattle.acl_eval.specs.Bridge.{bridge_list}
use Rattle.acl_eval.specs.Grant.{Grant}
use Rattle.acl_eval.specs.Inheritance.{children}
use Rattle.acl_eval.specs.declared.inherit.ChildKind.{ChildKind}

-- the input is one accepted list of the profile and nothing more, and this is whether that list grants the request
pub record Decides (p : Profile) (input : List ℕ) (s : Situation) (mask : ℕ) (granted : Bool) : Type 0 where
  pub list : List Ace
  pub spelled : Xdr p list input
  pub answer : IsTrue granted ↔ Grant list s mask

-- the one spelling of the list that a new object gets in a directory with this list
abbrev pub child_bytes : ChildKind → List Ace → List ℕ
child_bytes created list = spelling (children created list)

-- ---- what is made of an input, which is the text of a file if `Spells` says so

-- the input spells a file, and these bytes spell the list of its access ACL; the default ACL does not matter
pub record Bridges (Spells : PosixFile → Type 0) (bytes : List ℕ) : Type 0 where
  pub file : PosixFile
  pub read : Spells file
  pub spelled : Xdr full (bridge_list file.access) bytes

-- the input spells a file, and the list of its access ACL is above a limit
pub record IsPastLimits (Spells : PosixFile → Type 0) : Type 0 where
  pub file : PosixFile
  pub read : Spells file
  pub past : IsAccepted full (bridge_list file.access) → ⊥
