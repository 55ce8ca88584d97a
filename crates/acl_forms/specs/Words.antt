-- A value that is read word by word from the left, as XDR has it (RFC 4506, section 4.1), and the answers of a call
-- that reads a list of a form. The reasons are this library's own.
use Rattle.std.specs.Prelude.{◌≡◌, ◌⊎◌, ℕ, ◌+◌, List, length, take, drop, Result, Ok, Err, IfOk, MatchResult, nat_lt, if◌then◌else◌}
use Rattle.acl_nfs4.specs.Ace.{Ace}
use Rattle.acl_nfs4.specs.Fields.{number}
use Rattle.acl_nfs4.specs.Spelling.{word_size}
use Rattle.acl_nfs4.specs.Within.{is_within}
use Rattle.acl_nfs4.specs.internal.Reading.{Place}
use Rattle.acl_nfs4.specs.declared.xdr.fault.Reason.{Reason}
use Rattle.acl_nfs4.specs.declared.xdr.fault.Reason.TheVariants.{Truncated}
use Rattle.acl_forms.specs.AclFlags.{all_acl_flags}
use Rattle.acl_forms.specs.ReadFaults.{no_memory_left, read_fault_at}
use Rattle.acl_forms.specs.declared.acl_flags.AclFlags.{AclFlags}
use Rattle.acl_forms.specs.declared.fault.ReadFault.{ReadFault}
use Rattle.acl_forms.specs.declared.fault.ReadReason.{ReadReason}
use Rattle.acl_forms.specs.declared.fault.ReadReason.TheVariants as reason

-- the place before the first byte
abbrev pub start : List ℕ → Place
start bytes = record { at = 0; rest = bytes }

-- the bytes before the ACEs: the word of the flags, and the word of the list's length
abbrev pub head_size : ℕ
head_size = word_size + word_size

-- what a whole word means and the place after it, or why the word is refused
abbrev pub judged_word : {A : Type 0} → Place → Result A ReadReason → Result (A × Place) ReadFault
judged_word p (Ok x) = Ok (x, record { at = p.at + word_size; rest = drop word_size p.rest })
judged_word p (Err r) = Err (read_fault_at p.at r)

-- the word at a place: cut short, or what its number means
abbrev pub word_at : {A : Type 0} → (ℕ → Result A ReadReason) → Place → Result (A × Place) ReadFault
word_at means p = if nat_lt (length p.rest) word_size then Err (read_fault_at p.at (reason.List Truncated))
    else judged_word p (means (number (take word_size p.rest)))

-- what the decoder of nfsace4<> says of a field
abbrev pub listed : {A : Type 0} → Result A Reason → Result A ReadReason
listed (Ok x) = Ok x
listed (Err r) = Err (reason.List r)

-- the flags of the list that a word says, or why they are refused
abbrev pub acl_flags_of : ℕ → Result ℕ ReadReason
acl_flags_of n = if is_within all_acl_flags n then Ok n else Err reason.AclFlagBits

-- ---- the answers of a call that reads flags and a list

-- what the call returns are flags and a list of which this holds
abbrev pub IfForm : Result (AclFlags × List Ace) ReadFault → (ℕ → List Ace → Type 0) → Type 0
IfForm result Holds = IfOk result (λ read. Holds read.0.bits read.1)

-- these flags and this list, unless memory runs out
abbrev pub ReadsForm : Result (AclFlags × List Ace) ReadFault → ℕ → List Ace → Type 0
ReadsForm result flags list =
    MatchResult result (λ read. (read.0.bits ≡ flags) × (read.1 ≡ list)) (λ fault. fault ≡ no_memory_left)

-- this fault, unless memory runs out
abbrev pub RefusesForm : Result (AclFlags × List Ace) ReadFault → ReadFault → Type 0
RefusesForm result wrong = MatchResult result (λ _. ⊥) (λ fault. (fault ≡ wrong) ⊎ (fault ≡ no_memory_left))
