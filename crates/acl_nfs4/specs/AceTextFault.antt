-- What each fault says about a text of ACEs, without reading it: the first line that spells no ACE, or no ACE that the
-- list so far can accept, and what is wrong with it. The reasons, their order and their places are this library's own.
use Rattle.std.specs.Prelude.{◌≡◌, ◌≢◌, ◌+◌, ◌<◌, ◌≤◌, ◌⊎◌, ◌==◌, ℕ, List, ◌∷◌, ◌++◌, length, codes, count_by, count_ones, decimal, Some}
use Rattle.acl_perm.specs.Profile.{Profile}
use Rattle.acl_perm.specs.declared.kind.Kind.{Kind}
use Rattle.acl_nfs4.specs.Ace.{Ace}
use Rattle.acl_nfs4.specs.AceText.{TextLine, LineFields, HasLineFields, SpellEach, ace_lines, kind_name, space}
use Rattle.acl_nfs4.specs.FlagNames.{SpellsFlags}
use Rattle.acl_nfs4.specs.Rights.{SpellsMask}
use Rattle.acl_nfs4.specs.Limits.{most_aces, most_weight}
use Rattle.acl_nfs4.specs.Spelling.{IsAccepted, weight}
use Rattle.acl_nfs4.specs.Who.{who_fault}
use Rattle.acl_nfs4.specs.Within.{IsWithin}
use Rattle.acl_nfs4.specs.declared.who.WhoFault.{WhoFault}
use Rattle.acl_nfs4.specs.declared.who.WhoFault.TheVariants as who
use Rattle.acl_nfs4.specs.declared.text.fault.AceTextFault.{AceTextFault}
use Rattle.acl_nfs4.specs.declared.text.fault.AceTextFault.TheVariants.{TooManyAces, Fields, AceType, Flag, Mask, TooHeavy, WhoLength, WhoUtf8, WhoControl, SpecialWho, Memory}

-- ---- places

-- a line and a column
pub record IsAt (line column at_line at_column : ℕ) : Type 0 where
  pub same_line : at_line ≡ line
  pub same_column : at_column ≡ column

-- the column of the flags
abbrev pub flags_column : LineFields → ℕ
flags_column fields = length fields.kind + 2

-- the column of the mask
abbrev pub mask_column : LineFields → ℕ
mask_column fields = length fields.kind + length fields.flags + 3

-- the column of the who
abbrev pub who_column : LineFields → ℕ
who_column fields = length fields.kind + length fields.flags + length fields.mask + 4

-- ---- how far a line is right, as the next one after lines that spell a list

-- the list can accept one more ACE, and the line has these fields
pub record IsSplit (list : List Ace) (line : TextLine) (fields : LineFields) : Type 0 where
  pub room : length list < most_aces
  pub has : HasLineFields line.bytes fields

-- the line is right up to its kind
pub record IsTyped (list : List Ace) (line : TextLine) (fields : LineFields) : Type 0 where
  pub cut : IsSplit list line fields
  pub kind : Kind
  pub is_kind : fields.kind ≡ kind_name kind

-- the line is right up to its flags, which the profile has
pub record IsFlagged (p : Profile) (list : List Ace) (line : TextLine) (fields : LineFields) : Type 0 where
  pub typed : IsTyped list line fields
  pub flags : ℕ
  pub named : SpellsFlags fields.flags flags
  pub within : IsWithin p.flags flags

-- the line is right up to its mask, which is this one, of rights of the profile
pub record IsMasked (p : Profile) (list : List Ace) (line : TextLine) (fields : LineFields) (mask : ℕ) : Type 0 where
  pub flagged : IsFlagged p list line fields
  pub named : SpellsMask fields.mask mask
  pub within : IsWithin p.masks mask

-- the line is right up to its mask, and the list can accept that mask
pub record IsLight (p : Profile) (list : List Ace) (line : TextLine) (fields : LineFields) : Type 0 where
  pub mask : ℕ
  pub masked : IsMasked p list line fields mask
  pub light : weight list + count_ones mask ≤ most_weight

-- ---- what is wrong with a line

-- the list has the greatest number of ACEs
pub record IsOneTooMany (list : List Ace) (line : TextLine) (at_line at_column : ℕ) : Type 0 where
  pub full : most_aces ≤ length list
  pub place : IsAt line.number 1 at_line at_column

-- the line has fewer than three spaces
pub record IsNotFour (list : List Ace) (line : TextLine) (at_line at_column : ℕ) : Type 0 where
  pub room : length list < most_aces
  pub few : count_by (λ b. b == space) line.bytes < 3
  pub place : IsAt line.number 1 at_line at_column

-- the first field is not a kind
pub record IsNoKind (list : List Ace) (line : TextLine) (at_line at_column : ℕ) : Type 0 where
  pub fields : LineFields
  pub cut : IsSplit list line fields
  pub no_kind : (kind : Kind) → fields.kind ≢ kind_name kind
  pub place : IsAt line.number 1 at_line at_column

-- the second field names no flags, or a flag that the profile does not have
pub record IsNoFlags (p : Profile) (list : List Ace) (line : TextLine) (at_line at_column : ℕ) : Type 0 where
  pub fields : LineFields
  pub typed : IsTyped list line fields
  pub no_flags : (flags : ℕ) → SpellsFlags fields.flags flags → IsWithin p.flags flags → ⊥
  pub place : IsAt line.number (flags_column fields) at_line at_column

-- the third field names no mask, or a right that the profile does not have
pub record IsNoMask (p : Profile) (list : List Ace) (line : TextLine) (at_line at_column : ℕ) : Type 0 where
  pub fields : LineFields
  pub flagged : IsFlagged p list line fields
  pub no_mask : (mask : ℕ) → SpellsMask fields.mask mask → IsWithin p.masks mask → ⊥
  pub place : IsAt line.number (mask_column fields) at_line at_column

-- with the mask the list is too heavy
pub record IsTooHeavy (p : Profile) (list : List Ace) (line : TextLine) (at_line at_column : ℕ) : Type 0 where
  pub fields : LineFields
  pub mask : ℕ
  pub masked : IsMasked p list line fields mask
  pub heavy : most_weight < weight list + count_ones mask
  pub place : IsAt line.number (mask_column fields) at_line at_column

-- the last field is not a who, for this reason
pub record IsNoWho (p : Profile) (list : List Ace) (line : TextLine) (why : WhoFault) (at_line at_column : ℕ) :
    Type 0 where
  pub fields : LineFields
  pub light : IsLight p list line fields
  pub reason : who_fault fields.who ≡ Some why
  pub place : IsAt line.number (who_column fields) at_line at_column

-- what each fault says about its line
abbrev pub IsLineFault : Profile → List Ace → TextLine → AceTextFault → Type 0
IsLineFault p list line (TooManyAces at_line at_column) = IsOneTooMany list line at_line at_column
IsLineFault p list line (Fields at_line at_column) = IsNotFour list line at_line at_column
IsLineFault p list line (AceType at_line at_column) = IsNoKind list line at_line at_column
IsLineFault p list line (Flag at_line at_column) = IsNoFlags p list line at_line at_column
IsLineFault p list line (Mask at_line at_column) = IsNoMask p list line at_line at_column
IsLineFault p list line (TooHeavy at_line at_column) = IsTooHeavy p list line at_line at_column
IsLineFault p list line (WhoLength at_line at_column) = IsNoWho p list line who.Length at_line at_column
IsLineFault p list line (WhoUtf8 at_line at_column) = IsNoWho p list line who.Utf8 at_line at_column
IsLineFault p list line (WhoControl at_line at_column) = IsNoWho p list line who.Control at_line at_column
IsLineFault p list line (SpecialWho at_line at_column) = IsNoWho p list line who.Special at_line at_column
IsLineFault p list line Memory = ⊥

-- ---- what is wrong with a text

-- the lines before one spell an accepted list, and that line has the fault
pub record IsAceTextFault (p : Profile) (text : List ℕ) (fault : AceTextFault) : Type 0 where
  pub before : List TextLine
  pub line : TextLine
  pub after : List TextLine
  pub order : ace_lines text ≡ before ++ line ∷ after
  pub list : List Ace
  pub spelled : SpellEach before list
  pub accepted : IsAccepted p list
  pub wrong : IsLineFault p list line fault

-- a refusal reports the text's fault, or that memory ran out
abbrev pub IsTextRefusal : Profile → List ℕ → AceTextFault → Type 0
IsTextRefusal p text fault = (fault ≡ Memory) ⊎ IsAceTextFault p text fault

-- ---- how a fault is shown

-- the name of a fault, with which its message begins if it has a place
abbrev pub text_fault_name : AceTextFault → List ℕ
text_fault_name (TooManyAces line column) = codes "TooManyAces"
text_fault_name (Fields line column) = codes "Fields"
text_fault_name (AceType line column) = codes "AceType"
text_fault_name (Flag line column) = codes "Flag"
text_fault_name (Mask line column) = codes "Mask"
text_fault_name (TooHeavy line column) = codes "TooHeavy"
text_fault_name (WhoLength line column) = codes "WhoLength"
text_fault_name (WhoUtf8 line column) = codes "WhoUtf8"
text_fault_name (WhoControl line column) = codes "WhoControl"
text_fault_name (SpecialWho line column) = codes "SpecialWho"
text_fault_name Memory = codes "Memory"

-- a name with a line and a column
abbrev pub placed_text : List ℕ → ℕ → ℕ → List ℕ
placed_text name line column = name ++ codes " at line " ++ decimal line ++ codes " column " ++ decimal column

-- the message of a fault
abbrev pub text_fault_text : AceTextFault → List ℕ
text_fault_text (TooManyAces line column) = placed_text (codes "TooManyAces") line column
text_fault_text (Fields line column) = placed_text (codes "Fields") line column
text_fault_text (AceType line column) = placed_text (codes "AceType") line column
text_fault_text (Flag line column) = placed_text (codes "Flag") line column
text_fault_text (Mask line column) = placed_text (codes "Mask") line column
text_fault_text (TooHeavy line column) = placed_text (codes "TooHeavy") line column
text_fault_text (WhoLength line column) = placed_text (codes "WhoLength") line column
text_fault_text (WhoUtf8 line column) = placed_text (codes "WhoUtf8") line column
text_fault_text (WhoControl line column) = placed_text (codes "WhoControl") line column
text_fault_text (SpecialWho line column) = placed_text (codes "SpecialWho") line column
text_fault_text Memory = codes "out of memory"
