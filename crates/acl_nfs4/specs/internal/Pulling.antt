-- Fields that are pulled from a source one after the other: definitions that this library's code needs. No public
-- clause cites them.
use Rattle.std.specs.Prelude.{◌≡◌, ◌≢◌, ◌⊎◌, ℕ, ◌+◌, ◌<◌, ◌≤◌, List, [], ◌++◌, length, take, drop, Option, Result, Ok, Err, count_ones, false}
use Rattle.std.specs.Io.KnownBytes.{Consumes, IsAtEnd}
use Rattle.acl_perm.specs.Devices.{one_more}
use Rattle.acl_perm.specs.Profile.{Profile, profile_of}
use Rattle.acl_perm.specs.declared.kind.Kind.{Kind}
use Rattle.acl_nfs4.specs.Ace.{Ace}
use Rattle.acl_nfs4.specs.Limits.{most_aces, most_weight}
use Rattle.acl_nfs4.specs.Fields.{number}
use Rattle.acl_nfs4.specs.Spelling.{word_size}
use Rattle.acl_nfs4.specs.Stream.{Decodes}
use Rattle.acl_nfs4.specs.internal.Progress.{IsBytes, IsScanned, after_word, first_number}
use Rattle.acl_nfs4.specs.internal.Reading.{Place, ace_at, from_mask, from_who}
use Rattle.acl_nfs4.specs.declared.xdr.fault.Fault.{Fault}
use Rattle.acl_nfs4.specs.declared.xdr.fault.Reason.{Reason}
use Rattle.acl_nfs4.specs.declared.xdr.fault.Reason.TheVariants.{Truncated, Read}
use Rattle.acl_nfs4.specs.declared.xdr.pulling.NextAce.{NextAce}
use Rattle.acl_nfs4.specs.declared.xdr.pulling.Pulled.{Pulled}
use Rattle.acl_nfs4.specs.declared.xdr.pulling.Words.{Words}
use Rattle.acl_nfs4.specs.Who.{is_no_who_len}

-- ---- one field

-- a source is at its end, or a pull failed; the failures are counted before and after
abbrev pub HasEnded : Option (List ℕ) → ℕ → ℕ → Reason → Type 0
HasEnded left before after r =
    ((r ≡ Truncated) × IsAtEnd left × (after ≡ before)) ⊎ ((r ≡ Read) × (after ≡ one_more before))

-- a source ended here, or failed, after it gave fewer bytes than these
pub record IsLacking (offset size : ℕ) (piece : List ℕ) (left : Option (List ℕ)) (before after : ℕ) (f : Fault)
    : Type 0 where
  pub short : length piece < size
  pub bytes : IsBytes piece
  pub here : f.offset ≡ offset
  pub why : HasEnded left before after f.reason

-- a source gave exactly this many bytes, which are in the buffer after those that were held
pub record IsFilled (held size : ℕ) (old new piece : List ℕ) (before after : ℕ) : Type 0 where
  pub long : length piece ≡ size
  pub room : take (held + size) new ≡ take held old ++ piece
  pub behind : take size (drop held new) ≡ piece
  pub bytes : IsBytes piece
  pub kept : after ≡ before

-- the result of asking for this many bytes
abbrev pub Fills : ℕ → ℕ → ℕ → List ℕ → List ℕ → List ℕ → Option (List ℕ) → ℕ → ℕ → Result (Unit {0}) Fault → Type 0
Fills offset held size room new piece left before after (Ok _) = IsFilled held size room new piece before after
Fills offset held size room new piece left before after (Err f) = IsLacking offset size piece left before after f

-- the result of asking for a word
abbrev pub FillsWord : ℕ → ℕ → List ℕ → List ℕ → List ℕ → Option (List ℕ) → ℕ → ℕ → Result ℕ Fault → Type 0
FillsWord offset held room new piece left before after (Ok n) =
    IsFilled held word_size room new piece before after × (number piece ≡ n)
FillsWord offset held room new piece left before after (Err f) = IsLacking offset word_size piece left before after f

-- the result of asking a source for this many bytes, and what it gave
abbrev pub DrawsBytes : ℕ → ℕ → ℕ → List ℕ → List ℕ → Option (List ℕ) → Option (List ℕ) → ℕ → ℕ
    → Result (Unit {0}) Fault → Type 0
DrawsBytes offset held size room new old left before after result =
    (piece : List ℕ) × Consumes old left piece × Fills offset held size room new piece left before after result

-- the result of asking a source for a word, and what it gave
abbrev pub DrawsWord : ℕ → ℕ → List ℕ → List ℕ → Option (List ℕ) → Option (List ℕ) → ℕ → ℕ → Result ℕ Fault → Type 0
DrawsWord offset held room new old left before after result =
    (piece : List ℕ) × Consumes old left piece × FillsWord offset held room new piece left before after result

-- ---- the fields of an ACE

-- an ACE that begins at this offset with these bytes ends inside the field at o
abbrev pub IsShort : Profile → ℕ → ℕ → List ℕ → ℕ → Type 0
IsShort p weight offset bytes o =
    ace_at p weight (record { at = offset; rest = bytes }) ≡ Err (record { offset = o; reason = Truncated })

-- each shorter beginning of the text ends inside a field
abbrev pub IsCutIn : Profile → ℕ → ℕ → List ℕ → Type 0
IsCutIn p weight offset text = (k : ℕ) → k < length text → (o : ℕ) × IsShort p weight offset (take k text) o

-- the last field of the text is refused
pub record IsRejected (p : Profile) (weight offset : ℕ) (text : List ℕ) (f : Fault) : Type 0 where
  pub fails : ace_at p weight (record { at = offset; rest = text }) ≡ Err f
  pub cut : IsCutIn p weight offset text
  pub not_cut : f.reason ≢ Truncated
  pub not_read : f.reason ≢ Read

-- a source gave the fields of an ACE before this rest: they are the first bytes of the buffer, and no pull failed
pub record IsDrawn (p : Profile) (weight : ℕ) (rest : Place → Result (Ace × Place) Fault) (offset held : ℕ)
    (old left : Option (List ℕ)) (before after : ℕ) (room given : List ℕ) : Type 0 where
  pub taken : Consumes old left given
  pub front : take held room ≡ given
  pub long : length given ≡ held
  pub bytes : IsBytes given
  pub kept : after ≡ before
  pub leads : (t : List ℕ) → ace_at p weight (record { at = offset; rest = given ++ t })
      ≡ rest (record { at = offset + held; rest = t })
  pub cut : IsCutIn p weight offset given

-- a source gave a part of an ACE, and there the decoder stops: the source ended or failed, or the last field is refused
pub record IsHalted (p : Profile) (weight offset : ℕ) (old left : Option (List ℕ)) (before after : ℕ) (f : Fault)
    : Type 0 where
  pub given : List ℕ
  pub taken : Consumes old left given
  pub bytes : IsBytes given
  pub stops : (IsShort p weight offset given f.offset × HasEnded left before after f.reason)
      ⊎ (IsRejected p weight offset given f × (after ≡ before))

-- a source gave the kind and the flags of an ACE
pub record HasKindAndFlags (p : Profile) (weight offset : ℕ) (old left : Option (List ℕ)) (before after : ℕ)
    (room : List ℕ)
    : Type 0 where
  pub kind : Kind
  pub flags : ℕ
  pub given : List ℕ
  pub drawn : IsDrawn p weight (from_mask p weight kind flags) offset 8 old left before after room given

-- a source gave the four words of an ACE
pub record HasWords (p : Profile) (weight offset : ℕ) (old left : Option (List ℕ)) (before after : ℕ) (room : List ℕ)
    (x : Words) : Type 0 where
  pub kind : Kind
  pub flags : ℕ
  pub mask : ℕ
  pub given : List ℕ
  pub drawn : IsDrawn p weight (from_who kind flags mask x.len) offset 16 old left before after room given
  pub some : is_no_who_len x.len ≡ false
  pub weighs : count_ones mask ≡ x.weight
  pub light : weight + x.weight ≤ most_weight

-- a source gave a whole ACE
pub record HasAce (p : Profile) (weight offset : ℕ) (old left : Option (List ℕ)) (before after : ℕ) (room : List ℕ)
    (x : Pulled) : Type 0 where
  pub ace : Ace
  pub given : List ℕ
  pub drawn : IsDrawn p weight (λ at. Ok (ace, at)) offset x.len old left before after room given
  pub weighs : count_ones ace.mask ≡ x.weight
  pub light : weight + x.weight ≤ most_weight
  pub inside : x.len ≤ length room

-- the result of asking for the kind and the flags of an ACE
abbrev pub DrawsHead : NextAce → Option (List ℕ) → Option (List ℕ) → ℕ → ℕ → List ℕ → Result (Unit {0}) Fault → Type 0
DrawsHead next old left before after room (Ok _) =
    HasKindAndFlags (profile_of next.profile) next.weight next.offset old left before after room
DrawsHead next old left before after room (Err f) =
    IsHalted (profile_of next.profile) next.weight next.offset old left before after f

-- the result of asking for the four words of an ACE
abbrev pub DrawsWords : NextAce → Option (List ℕ) → Option (List ℕ) → ℕ → ℕ → List ℕ → Result Words Fault → Type 0
DrawsWords next old left before after room (Ok x) =
    HasWords (profile_of next.profile) next.weight next.offset old left before after room x
DrawsWords next old left before after room (Err f) =
    IsHalted (profile_of next.profile) next.weight next.offset old left before after f

-- the result of asking for an ACE
abbrev pub DrawsAce : NextAce → Option (List ℕ) → Option (List ℕ) → ℕ → ℕ → List ℕ → Result Pulled Fault → Type 0
DrawsAce next old left before after room (Ok x) =
    HasAce (profile_of next.profile) next.weight next.offset old left before after room x
DrawsAce next old left before after room (Err f) =
    IsHalted (profile_of next.profile) next.weight next.offset old left before after f

-- ---- the list so far

-- a decoder has taken exactly this text: the word of the count, and that many whole ACEs of that weight, which its body
-- holds
pub record IsPulled (p : Profile) (n seen total : ℕ) (body text : List ℕ) : Type 0 where
  pub small : n ≤ most_aces
  pub counted : first_number text ≡ n
  pub parts : after_word text ≡ body
  pub long : length text ≡ word_size + length body
  pub bytes : IsBytes text
  pub scanned : IsScanned p body (record { seen = seen; used = length body; weight = total })

-- the result of asking for the word of the count
abbrev pub DrawsCount : List ℕ → Option (List ℕ) → ℕ → ℕ → Result ℕ Fault → Type 0
DrawsCount piece left before after (Ok n) = ((p : Profile) → IsPulled p n 0 0 [] piece) × (after ≡ before)
DrawsCount piece left before after (Err f) = (p : Profile) → Decodes p piece (IsAtEnd left) (Err f)
