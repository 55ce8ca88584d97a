-- Where the ACEs of a list begin in the bytes that spell it (RFC 4506 over RFC 8881, section 6.2.1), and what one ACE
-- at an offset is.
use Rattle.std.specs.Prelude.{◌≡◌, ◌≢◌, ℕ, ◌+◌, ◌==◌, List, ◌++◌, length, drop, if◌then◌else◌, IsNone, Option, Result, IsSomeAnd}
use Rattle.std.specs.List.{flat_map}
use Rattle.std.specs.Result.{IsOkAnd}
use Rattle.acl_perm.specs.Profile.{Profile}
use Rattle.acl_nfs4.specs.Ace.{Ace, ace}
use Rattle.acl_nfs4.specs.Fault.{HasWholeFault, IsFault}
use Rattle.acl_nfs4.specs.Spelling.{IsAce, piece, word, word_size}
use Rattle.acl_nfs4.specs.declared.xdr.ace_at.AceAt.{AceAt}
use Rattle.acl_nfs4.specs.declared.xdr.fault.Fault.{Fault}

-- the offset of the ACE that follows these ACEs of a list, or of the end of the list
abbrev pub offset_after : List Ace → ℕ
offset_after front = word_size + length (flat_map piece front)

-- the offset at which an ACE is read: 0, where the list begins, stands for the first ACE
abbrev pub ace_offset : ℕ → ℕ
ace_offset offset = if offset == 0 then word_size else offset

-- the bytes from one offset up to another spell this ACE of the profile
pub record IsAceFrom (p : Profile) (bytes : List ℕ) (from to : ℕ) (a : Ace) : Type 0 where
  pub before : List ℕ
  pub after : List ℕ
  pub parts : bytes ≡ before ++ piece a ++ after
  pub begins : length before ≡ from
  pub ends : from + length (piece a) ≡ to
  pub is : IsAce p a

-- the bytes from an offset on, as the one ACE of a list, have this fault
pub record IsFaultFrom (p : Profile) (bytes : List ℕ) (offset : ℕ) (f : Fault) : Type 0 where
  pub behind : ℕ
  pub here : f.offset ≡ offset + behind
  pub has : IsFault p (word 1 ++ drop offset bytes) (word_size + behind) f.reason

-- at offset 0 the bytes as a whole have this fault; at another offset the ACE there has it
pub record IsAceFault (p : Profile) (bytes : List ℕ) (offset : ℕ) (f : Fault) : Type 0 where
  pub whole : offset ≡ 0 → HasWholeFault p bytes f
  pub inside : (offset ≢ 0) → IsFaultFrom p bytes offset f

-- the result is this ACE, which ends at this offset
abbrev pub GivesAce : Ace → ℕ → Result (Option AceAt) Fault → Type 0
GivesAce a end result = IsOkAnd result (λ x. IsSomeAnd x (λ found. (ace found.ace ≡ a) × (found.end ≡ end)))

-- the result is that no ACE is left
abbrev pub GivesNoAce : Result (Option AceAt) Fault → Type 0
GivesNoAce result = IsOkAnd result (λ x. IsNone x)
