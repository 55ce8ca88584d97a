-- How lists are read from an input that comes in pieces, and how much of the input is taken (this library's own, over
-- RFC 4506 and RFC 8881, section 6.2.1).
use Rattle.std.specs.Prelude.{◌≡◌, ◌⊎◌, ◌+◌, ◌≤◌, ◌++◌, List, ℕ, Option, length, take}
use Rattle.std.specs.Io.KnownBytes.{Consumes}
use Rattle.acl_perm.specs.Profile.{Profile}
use Rattle.acl_nfs4.specs.Ace.{Ace}
use Rattle.acl_nfs4.specs.Fault.{IsFirstFault}
use Rattle.acl_nfs4.specs.Spelling.{Xdr}
use Rattle.acl_nfs4.specs.Stream.{IsCutShort}
use Rattle.acl_nfs4.specs.declared.xdr.fault.Reason.{Reason}

-- the greatest number of bytes that a pull asks for
abbrev pub piece_len : ℕ
piece_len = 4096

-- what was taken of a source ends at such an end, or at most 4,096 bytes after it
pub record TakesTo (IsEnd : List ℕ → ℕ → Type 0) (known left : Option (List ℕ)) : Type 0 where
  pub given : List ℕ
  pub end : ℕ
  pub taken : Consumes known left given
  pub is_end : IsEnd given end
  pub near : length given ≤ end + piece_len

-- what was taken of a source may continue
pub record TakesPart (MayGoOn : List ℕ → Type 0) (known left : Option (List ℕ)) : Type 0 where
  pub given : List ℕ
  pub taken : Consumes known left given
  pub is_open : MayGoOn given

-- ---- one list

-- the value that a text begins with ends after this many bytes
pub record ValueEnds (p : Profile) (text : List ℕ) (end : ℕ) : Type 0 where
  pub list : List Ace
  pub spelled : Xdr p list (take end text)

-- the field in which a text is refused or cut short ends there
pub record RefusalEnds (p : Profile) (text : List ℕ) (end : ℕ) : Type 0 where
  pub offset : ℕ
  pub reason : Reason
  pub has : IsFirstFault p text offset end reason

-- the value of a text ends there, or the refused field does
abbrev pub ListEnds : Profile → List ℕ → ℕ → Type 0
ListEnds p text end = ValueEnds p text end ⊎ RefusalEnds p text end

-- what was taken of a source ends with its value or the refused field, or at most 4,096 bytes after it
abbrev pub TakesLittle : Profile → Option (List ℕ) → Option (List ℕ) → Type 0
TakesLittle p = TakesTo (ListEnds p)

-- a text that may continue: it is cut short, or it is a whole value with nothing after it
abbrev pub IsOpen : Profile → List ℕ → Type 0
IsOpen p text = IsCutShort p text ⊎ ((list : List Ace) × Xdr p list text)

-- what was taken of a source has no fault, except that it may continue
abbrev pub TakesOpen : Profile → Option (List ℕ) → Option (List ℕ) → Type 0
TakesOpen p = TakesPart (IsOpen p)

-- ---- two lists

-- a text begins with one value, and this holds for the number of its bytes and for the bytes after it
pub record ValueFirst (p : Profile) (Holds : List ℕ → List ℕ → Type 0) (text : List ℕ) : Type 0 where
  pub list : List Ace
  pub first : List ℕ
  pub rest : List ℕ
  pub parts : text ≡ first ++ rest
  pub spelled : Xdr p list first
  pub holds : Holds first rest

-- the value that the rest is, or a refused field of it, ends this many bytes after the first bytes
pub record EndsBehind (p : Profile) (end : ℕ) (first rest : List ℕ) : Type 0 where
  pub behind : ℕ
  pub is_end : ListEnds p rest behind
  pub is : end ≡ length first + behind

-- a text begins with one value, and the second value, or a refused field of it, ends this many bytes after that
abbrev pub SecondEnds : Profile → List ℕ → ℕ → Type 0
SecondEnds p text end = ValueFirst p (EndsBehind p end) text

-- the second value of a text ends there, or the refused field of the first or the second
abbrev pub TwoEnd : Profile → List ℕ → ℕ → Type 0
TwoEnd p text end = SecondEnds p text end ⊎ RefusalEnds p text end

-- what was taken of a source ends with its second value or the refused field, or at most 4,096 bytes after it
abbrev pub TakesLittleOfTwo : Profile → Option (List ℕ) → Option (List ℕ) → Type 0
TakesLittleOfTwo p = TakesTo (TwoEnd p)

-- a text begins with one value, and the bytes after it may continue
abbrev pub SecondIsOpen : Profile → List ℕ → Type 0
SecondIsOpen p = ValueFirst p (λ first. IsOpen p)

-- a text of two values that may continue: it is cut short in the first, or the second may continue
abbrev pub AreOpen : Profile → List ℕ → Type 0
AreOpen p text = IsCutShort p text ⊎ SecondIsOpen p text

-- what was taken of a source has no fault, except that it may continue
abbrev pub TakesOpenOfTwo : Profile → Option (List ℕ) → Option (List ℕ) → Type 0
TakesOpenOfTwo p = TakesPart (AreOpen p)
