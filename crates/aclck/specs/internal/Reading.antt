-- How one list, and two, are read from an input that comes in pieces (this library's own, over RFC 4506 and RFC 8881,
-- section 6.2.1).
use Rattle.std.specs.Prelude.{◌≡◌, ◌≢◌, ◌⊎◌, ◌+◌, ◌≤◌, ◌<◌, ◌++◌, [], List, ℕ, Bool, false, true, Option, IfErr, IfOk, IfSome, OnOk, Result, Ok, Err, length}
use Rattle.std.specs.Io.KnownBytes.{Consumes, IsAtEnd, Keeps}
use Rattle.acl_perm.specs.Devices.{failures_after}
use Rattle.acl_perm.specs.Profile.{Profile}
use Rattle.acl_nfs4.specs.Ace.{Ace}
use Rattle.acl_nfs4.specs.Fault.{IsFirstFault}
use Rattle.acl_nfs4.specs.Spelling.{Xdr, word_limit}
use Rattle.acl_nfs4.specs.internal.Progress.{IsBytes}
use Rattle.acl_nfs4.specs.Stream.{IsCutShort}
use Rattle.acl_nfs4.specs.declared.xdr.fault.Fault.{Fault}
use Rattle.acl_nfs4.specs.declared.xdr.fault.Reason.TheVariants.{Memory, TrailingBytes, Truncated}
use Rattle.aclck.specs.Answer.{IsXdrFault, origin_of, has_read_failed, is_read}
use Rattle.aclck.specs.commands.Compare.{AreTwo, IsRefusedTwo}
use Rattle.aclck.specs.ListInput.{AreOpen, IsOpen, ListEnds, RefusalEnds, TakesPart, TakesTo, TwoEnd, ValueEnds, piece_len}
use Rattle.aclck.specs.declared.answer.Origin.{Origin}
use Rattle.aclck.specs.declared.answer.Origin.TheVariants as origin
use Rattle.aclck.specs.declared.answer.RunFault.{RunFault}
use Rattle.aclck.specs.declared.answer.RunFault.TheVariants as fault
use Rattle.aclck.specs.declared.input.xdr.ListFault.{ListFault}
use Rattle.aclck.specs.declared.input.xdr.ListFault.TheVariants as unread
use Rattle.aclck.specs.declared.input.xdr.TwoInputs.{TwoInputs}

-- ---- faults

-- why a list was not read, as an engine reports it
abbrev pub run_fault : ListFault → RunFault
run_fault (unread.Refused f) = fault.Nfs f
run_fault unread.Read = fault.Read
run_fault unread.Memory = fault.Memory

-- a fault of a list as its reader reports it: memory ran out, or a refusal for another reason
abbrev pub IsReaderFault : ListFault → Fault → Type 0
IsReaderFault e f = (e ≡ unread.Memory) ⊎ ((e ≡ unread.Refused f) × (f.reason ≢ Memory))

-- a pull failed
abbrev pub is_failed_pull : ListFault → Bool
is_failed_pull (unread.Refused f) = false
is_failed_pull unread.Read = true
is_failed_pull unread.Memory = false

-- the result is that a pull failed
abbrev pub has_pull_failed : {X : Type 0} → Result X ListFault → Bool
has_pull_failed (Ok x) = false
has_pull_failed (Err e) = is_failed_pull e

-- the fault of the bytes after this many bytes, counted from the start of these
abbrev pub later : ListFault → ℕ → ListFault
later (unread.Refused f) n = unread.Refused (record { offset = f.offset + n; reason = f.reason })
later unread.Read n = unread.Read
later unread.Memory n = unread.Memory

-- a number of bytes that one value can have
abbrev pub FitsOneValue : ℕ → Type 0
FitsOneValue count = count < word_limit

-- a refusal is at a byte that one value can have
abbrev pub HasOffsetOfOneValue : ListFault → Type 0
HasOffsetOfOneValue (unread.Refused f) = FitsOneValue f.offset
HasOffsetOfOneValue unread.Read = Unit {0}
HasOffsetOfOneValue unread.Memory = Unit {0}

-- ---- inputs

-- an input with a property; it is the source's input, if the source says which bytes it gives
pub record HasInput (Holds : List ℕ → Type 0) (known : Option (List ℕ)) : Type 0 where
  pub input : List ℕ
  pub is_input : IfSome known (λ bytes. input ≡ bytes)
  pub holds : Holds input

-- why an input was not read: it is refused, or a read failed, or memory ran out
abbrev pub Unread : Type 0 → Origin → Type 0
Unread Refused origin.Input = Refused
Unread Refused origin.Source = Unit {0}
Unread Refused (origin.Sink w) = ⊥
Unread Refused origin.Memory = Unit {0}

-- what kind an input is: which faults it may have, where it ends, and which beginnings of it may continue
pub record InputKind : Type 1 where
  pub HasFault : List ℕ → RunFault → Type 0
  pub EndsAt : List ℕ → ℕ → Type 0
  pub MayGoOn : List ℕ → Type 0

-- one list
abbrev pub one_list_input : Profile → InputKind
one_list_input p = record { HasFault = IsXdrFault p; EndsAt = ListEnds p; MayGoOn = IsOpen p }

-- a text spells the two lists that the program holds, and nothing more
abbrev pub SpellsTwo : Profile → TwoInputs → List ℕ → Type 0
SpellsTwo p two = AreTwo p two.first two.second

-- two lists
abbrev pub two_list_input : Profile → InputKind
two_list_input p = record { HasFault = IsRefusedTwo p; EndsAt = TwoEnd p; MayGoOn = AreOpen p }

-- an input of a kind was read from a source, or not: the bytes that the source has left before and after, and how many
-- of its calls failed
pub record ReadsInput {X : Type 0} (k : InputKind) (Is : X → List ℕ → Type 0) (known left : Option (List ℕ))
    (failed failed_after : ℕ) (r : Result X RunFault) : Type 0 where
  -- what was found is the input
  pub found : IfOk r (λ x. HasInput (Is x) known)
  -- the input was read to its end
  pub whole : OnOk r (IsAtEnd left)
  -- why the input was not read
  pub not_read : IfErr r (λ e. Unread (HasInput (λ input. k.HasFault input e) known) (origin_of e))
  -- little of the source was taken
  pub bound : TakesTo k.EndsAt known left
  -- if a read failed, what was taken is not refused
  pub stopped : IfErr r (λ e. is_read e ≡ true → TakesPart k.MayGoOn known left)
  -- one read failed if the result says so, and otherwise none
  pub reads : failed_after ≡ failures_after failed (has_read_failed r)

-- ---- one value

-- a value was read from the rest of the last pull and from what the source gave: this many bytes, and the rest then
pub record ReadsValue (p : Profile) (left now_left : List ℕ) (known now_known : Option (List ℕ)) (list : List Ace)
    (len : ℕ) : Type 0 where
  pub given : List ℕ
  pub text : List ℕ
  pub taken : Consumes known now_known given
  pub parts : left ++ given ≡ text ++ now_left
  pub spelled : Xdr p list text
  pub is_len : len ≡ length text

-- the rest of the last pull and what the source gave have this fault, and were read to the end of its field or little
-- further; if they are cut short, to the end of the source
pub record ReadsFault (p : Profile) (left : List ℕ) (known now_known : Option (List ℕ)) (f : Fault) : Type 0 where
  pub given : List ℕ
  pub end : ℕ
  pub taken : Consumes known now_known given
  pub has : IsFirstFault p (left ++ given) f.offset end f.reason
  pub near : length (left ++ given) ≤ end + piece_len
  pub all : f.reason ≡ Truncated → IsAtEnd now_known

-- bytes begin with a value that ends there
pub record BytesEnd (p : Profile) (text : List ℕ) (end : ℕ) : Type 0 where
  pub bytes : IsBytes text
  pub value : ValueEnds p text end

-- the rest of the last pull and what the source gave end with their value or the refused field, or little further
pub record ReadsLittle (p : Profile) (left : List ℕ) (known now_known : Option (List ℕ)) : Type 0 where
  pub given : List ℕ
  pub end : ℕ
  pub taken : Consumes known now_known given
  pub is_end : BytesEnd p (left ++ given) end ⊎ RefusalEnds p (left ++ given) end
  pub near : length (left ++ given) ≤ end + piece_len

-- the rest of the last pull and what the source gave are cut short
pub record ReadsPart (p : Profile) (left : List ℕ) (known now_known : Option (List ℕ)) : Type 0 where
  pub given : List ℕ
  pub taken : Consumes known now_known given
  pub cut : IsCutShort p (left ++ given)

-- why a value was not read
abbrev pub ReadsNone : Profile → List ℕ → Option (List ℕ) → Option (List ℕ) → ListFault → Type 0
ReadsNone p left known now_known (unread.Refused f) = ReadsFault p left known now_known f
ReadsNone p left known now_known unread.Read = ReadsPart p left known now_known
ReadsNone p left known now_known unread.Memory = ReadsLittle p left known now_known

-- ---- the end

-- there is a byte after the last value, in the rest of the last pull or in what the source gave
pub record ReadsMore (left : List ℕ) (known now_known : Option (List ℕ)) : Type 0 where
  pub given : List ℕ
  pub taken : Consumes known now_known given
  pub some : 0 < length (left ++ given)
  pub near : length (left ++ given) ≤ piece_len

-- why an input does not end after a value of this many bytes
abbrev pub EndsNot : ℕ → List ℕ → Option (List ℕ) → Option (List ℕ) → ListFault → Type 0
EndsNot len left known now_known (unread.Refused f) =
    (f ≡ record { offset = len; reason = TrailingBytes }) × ReadsMore left known now_known
EndsNot len left known now_known unread.Read = (left ≡ []) × Keeps known now_known
EndsNot len left known now_known unread.Memory = ⊥
