-- A stream that comes in pieces, and the answer of a call that reads it (this library's own; the layout is that of RFC
-- 4506 over RFC 8881, section 6.2.1).
use Rattle.std.specs.Prelude.{◌≡◌, ◌≢◌, ◌⊎◌, ℕ, ◌+◌, ◌-◌, ◌<◌, ◌≤◌, List, [], ◌∷◌, ◌++◌, length, take, Result, Ok, Err}
use Rattle.std.specs.List.{flat_map}
use Rattle.acl_perm.specs.Profile.{Profile}
use Rattle.acl_nfs4.specs.Ace.{Ace}
use Rattle.acl_nfs4.specs.Spelling.{Xdr, longest_ace, piece, word, word_size}
use Rattle.acl_nfs4.specs.Fault.{IsFault, IsFirstFault}
use Rattle.acl_nfs4.specs.declared.xdr.fault.Fault.{Fault}
use Rattle.acl_nfs4.specs.declared.xdr.fault.Reason.TheVariants.{Truncated, Read, Memory}
use Rattle.acl_nfs4.specs.declared.feed.fed.Fed.{Fed}
use Rattle.acl_nfs4.specs.declared.feed.fed.Fed.TheVariants.{More, Done, Refused}

-- bytes that end before their list does
abbrev pub IsCutShort : Profile → List ℕ → Type 0
IsCutShort p text = (o : ℕ) × IsFault p text o Truncated

-- what a feed represents: the stream so far, which is cut short; or the list with which it began; or its fault
pub data StreamState : Type 0 where
  more : (p : Profile) (stream : List ℕ) → StreamState
  done : (list : List Ace) → StreamState
  refused : (fault : Fault) → StreamState

-- the fault of a call that ran out of memory
abbrev pub no_memory : Fault
no_memory = record { offset = 0; reason = Memory }

-- memory ran out, or the text has this fault and is not cut short
abbrev pub RefusesStream : Profile → List ℕ → Fault → Type 0
RefusesStream p text f = (f ≡ no_memory) ⊎ (IsFault p text f.offset f.reason × (f.reason ≢ Truncated))

-- the answer to one more piece, and what the feed represents then: the stream is cut short, or begins with a list that
-- ends in this piece, or has a fault; later pieces do not change a list or a fault
abbrev pub Feeds : StreamState → List ℕ → Fed → StreamState → Type 0
Feeds (more p s) piece More new = (new ≡ more p (s ++ piece)) × IsCutShort p (s ++ piece)
Feeds (more p s) piece (Done taken) new =
    (list : List Ace) × (new ≡ done list) × (taken ≤ length piece) × Xdr p list (s ++ take taken piece)
Feeds (more p s) piece (Refused f) new = (new ≡ refused f) × RefusesStream p (s ++ piece) f
Feeds (done list) piece answer new = (new ≡ done list) × (answer ≡ Done 0)
Feeds (refused f) piece answer new = (new ≡ refused f) × (answer ≡ Refused f)

-- this answer, or that memory ran out
abbrev pub IsFedOrFails : Fed → Fed → Type 0
IsFedOrFails answer expected = (answer ≡ expected) ⊎ (answer ≡ Refused no_memory)

-- the answer for a stream whose first n bytes came before the piece, given what the stream is
pub record FedExactly (p : Profile) (stream : List ℕ) (n : ℕ) (answer : Fed) : Type 0 where
  pub cut : (o : ℕ) → IsFault p stream o Truncated → IsFedOrFails answer More
  pub whole : (list : List Ace) (text rest : List ℕ) → Xdr p list text → stream ≡ text ++ rest
      → IsFedOrFails answer (Done (length text - n))
  pub fault : (f : Fault) → IsFault p stream f.offset f.reason → f.reason ≢ Truncated
      → IsFedOrFails answer (Refused f)

-- the result if no more pieces come: the list, that the stream is cut short, or the fault
abbrev pub FinishesStream : StreamState → Result (List Ace) Fault → Type 0
FinishesStream (more p s) (Ok list) = ⊥
FinishesStream (more p s) (Err f) = (f.reason ≡ Truncated) × IsFault p s f.offset f.reason
FinishesStream (done list) result = result ≡ Ok list
FinishesStream (refused f) result = result ≡ Err f

-- ---- what is held

-- a stream of whole ACEs and less than the longest ACE after them, or of less than the word of their number
abbrev pub HoldsLittle : List ℕ → Type 0
HoldsLittle s = (length s < word_size)
    ⊎ ((n : ℕ) × (list : List Ace) × (tail : List ℕ) × (s ≡ (word n ++ flat_map piece list) ++ tail)
    × (length tail < longest_ace))

-- a feed that answers More holds little beyond whole ACEs
abbrev pub IsSmall : StreamState → Type 0
IsSmall (more p s) = HoldsLittle s
IsSmall (done list) = Unit {0}
IsSmall (refused f) = Unit {0}

-- ---- many pieces

-- pieces are fed one after the other, with these answers, and then the feed represents this
abbrev pub FeedsEach : StreamState → List (List ℕ) → List Fed → StreamState → Type 0
FeedsEach old [] [] new = new ≡ old
FeedsEach old [] (answer ∷ answers) new = ⊥
FeedsEach old (piece ∷ pieces) [] new = ⊥
FeedsEach old (piece ∷ pieces) (answer ∷ answers) new =
    (now : StreamState) × Feeds old piece answer now × FeedsEach now pieces answers new

-- the answer to the bytes after a piece of n bytes, as an answer to both together
abbrev pub further : ℕ → Fed → Fed
further n More = More
further n (Done taken) = Done (n + taken)
further n (Refused f) = Refused f

-- the answers to pieces as one answer to all of them together: the first that is not More
abbrev pub together : List (List ℕ) → List Fed → Fed
together [] answers = More
together (piece ∷ pieces) [] = More
together (piece ∷ pieces) (More ∷ answers) = further (length piece) (together pieces answers)
together (piece ∷ pieces) (Done taken ∷ answers) = Done taken
together (piece ∷ pieces) (Refused f ∷ answers) = Refused f

-- memory ran out in one of two cases, or the answers are the same and the feed represents the same
abbrev pub SameOrFails : Fed → StreamState → Fed → StreamState → Type 0
SameOrFails a x b y = (a ≡ Refused no_memory) ⊎ ((b ≡ Refused no_memory) ⊎ ((a ≡ b) × (x ≡ y)))

-- ---- reading from a source

-- the answer of a decoder that took exactly this text: the list that it spells; that it is cut short, at the end of the
-- input; that a read failed, at the field where the text is cut short; that memory ran out; or the fault of the text,
-- whose last field is the refused one
abbrev pub Decodes : Profile → List ℕ → Type 0 → Result (List Ace) Fault → Type 0
Decodes p given at_end (Ok list) = Xdr p list given
Decodes p given at_end (Err f) = ((f.reason ≡ Truncated) × IsFault p given f.offset Truncated × at_end)
    ⊎ (((f.reason ≡ Read) × IsFault p given f.offset Truncated)
    ⊎ ((f ≡ no_memory)
    ⊎ (IsFirstFault p given f.offset (length given) f.reason × (f.reason ≢ Truncated))))

-- the list, or a fault of the device or of memory
abbrev pub IsOrFails : Result (List Ace) Fault → List Ace → Type 0
IsOrFails (Ok found) list = found ≡ list
IsOrFails (Err f) list = (f.reason ≡ Read) ⊎ (f ≡ no_memory)

-- this fault, or one of the device or of memory
abbrev pub FaultsOrFails : Result (List Ace) Fault → Fault → Type 0
FaultsOrFails (Ok found) fault = ⊥
FaultsOrFails (Err f) fault = (f ≡ fault) ⊎ ((f.reason ≡ Read) ⊎ (f ≡ no_memory))
