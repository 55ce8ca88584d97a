-- What calls and programs make of the bytes or of the text of a list, defined once for all of them (this library's own,
-- over RFC 8881, section 6.2.1).
use Rattle.std.specs.Prelude.{◌≡◌, ℕ, List, OnOk, Option, Result}
use Rattle.std.specs.Io.KnownBytes.{Appends}
use Rattle.acl_perm.specs.Profile.{Profile}
use Rattle.acl_nfs4.specs.Ace.{Ace}
use Rattle.acl_nfs4.specs.AceText.{IsAceText}
use Rattle.acl_nfs4.specs.Spelling.{Xdr, spelling}

-- the input is one accepted list of the profile and nothing more, and this text is made of that list
pub record MakesText (p : Profile) (made : List Ace → List ℕ) (input text : List ℕ) : Type 0 where
  pub list : List Ace
  pub spelled : Xdr p list input
  pub is : text ≡ made list

-- the input is the text of a list of the profile, and these are the bytes that spell that list
pub record Encodes (p : Profile) (input bytes : List ℕ) : Type 0 where
  pub list : List Ace
  pub read : IsAceText p list input
  pub is : bytes ≡ spelling list

-- if the list was read from bytes, a call that succeeds adds the same bytes to what its sink holds
abbrev pub WritesAsRead : {E : Type 0} → Option (List ℕ) → Option (List ℕ) → List Ace → Result (Unit {0}) E → Type 0
WritesAsRead old new list result = (p : Profile) (text : List ℕ) → Xdr p list text → OnOk result (Appends old new text)
