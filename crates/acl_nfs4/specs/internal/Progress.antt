-- Up to which place a text that comes in pieces is judged: definitions that this library's code needs. Public clauses
-- cite none of them.
use Rattle.std.specs.Prelude.{◌≡◌, ℕ, ◌+◌, ◌<◌, ◌≤◌, List, [], ◌++◌, length, take, drop, get_or, Err, Option, None, Some}
use Rattle.std.specs.List.{AllByRecursion}
use Rattle.acl_perm.specs.Profile.{Profile}
use Rattle.acl_nfs4.specs.Ace.{Ace}
use Rattle.acl_nfs4.specs.Spelling.{Xdr, IsAce, weight, word_size}
use Rattle.acl_nfs4.specs.Within.{IsProfile}
use Rattle.acl_nfs4.specs.Fault.{IsFault}
use Rattle.acl_nfs4.specs.Fields.{number}
use Rattle.acl_nfs4.specs.internal.Reading.{Place, ace_at}
use Rattle.acl_nfs4.specs.internal.Body.{SpellsBody, aces_of}
use Rattle.acl_nfs4.specs.Owned.{IsOwned}
use Rattle.acl_nfs4.specs.Stream.{StreamState, more, done, refused}
use Rattle.acl_nfs4.specs.declared.xdr.fault.Fault.{Fault}
use Rattle.acl_nfs4.specs.declared.xdr.fault.Reason.TheVariants.{Truncated}
use Rattle.acl_nfs4.specs.declared.feed.scan.Progress.{Progress}
use Rattle.acl_nfs4.specs.declared.feed.step.Stage.{Stage}
use Rattle.acl_nfs4.specs.declared.feed.step.Stage.TheVariants.{Open, Done, Refused}

-- each number is a byte
abbrev pub IsBytes : List ℕ → Type 0
IsBytes bytes = (i : ℕ) → get_or bytes i 0 < 256

-- what holds for the first word of a stream, how much of it has come, and the bytes after it
pub record IsText (head : List ℕ) (filled : ℕ) (body : List ℕ) : Type 0 where
  pub word : length head ≡ word_size
  pub inside : filled ≤ word_size
  pub begun : filled < word_size → body ≡ []
  pub bytes : IsBytes (take filled head ++ body)

-- the first bytes of a body are the pieces of this many ACEs of that weight
pub record IsScanned (p : Profile) (body : List ℕ) (at : Progress) : Type 0 where
  pub list : List Ace
  pub spells : SpellsBody list (take at.used body)
  pub each : AllByRecursion (IsAce p) list
  pub long : length list ≡ at.seen
  pub total : weight list ≡ at.weight
  pub inside : at.used ≤ length body

-- the place after the ACEs that were judged; the word of the count is before the body
abbrev pub behind_scanned : List ℕ → Progress → Place
behind_scanned body at = record { at = word_size + at.used; rest = drop at.used body }

-- all ACEs are whole, or the next one has this fault
abbrev pub EndsPart : Profile → ℕ → List ℕ → Progress → Option Fault → Type 0
EndsPart p count body at None = at.seen ≡ count
EndsPart p count body at (Some f) = (at.seen < count) × (ace_at p at.weight (behind_scanned body at) ≡ Err f)

-- the number that the first word of a text spells
abbrev pub first_number : List ℕ → ℕ
first_number text = number (take word_size text)

-- the bytes after the first word of a text
abbrev pub after_word : List ℕ → List ℕ
after_word text = drop word_size text

-- up to which place a text is judged: the first bytes of its body, and no more ACEs than its count says
pub record IsProgress (p : Profile) (text : List ℕ) (at : Progress) : Type 0 where
  pub scanned : IsScanned p (after_word text) at
  pub seen : at.seen ≤ first_number text
  pub begun : length text < word_size → at.seen ≡ 0

-- the bytes of the pieces of the list that a text begins with
abbrev pub body_in : List ℕ → Progress → List ℕ
body_in text at = take at.used (after_word text)

-- the text begins with the list that was seen
pub record IsWhole (p : Profile) (text : List ℕ) (at : Progress) : Type 0 where
  pub xdr : Xdr p (aces_of at.seen (body_in text at)) (take (word_size + at.used) text)
  pub owned : IsOwned at.seen at.weight (body_in text at)
  pub inside : word_size + at.used ≤ length text

-- a text begins with the list that was seen, or has this fault
abbrev pub Judged : Profile → List ℕ → Progress → Option Fault → Type 0
Judged p text at None = IsWhole p text at
Judged p text at (Some f) = IsFault p text f.offset f.reason

-- what holds for the fields of a feed that answers More
pub record IsUnfinished (p : Profile) (f : Fault) (at : Progress) (text : List ℕ) : Type 0 where
  pub profile : IsProfile p
  pub cut : IsFault p text f.offset f.reason
  pub why : f.reason ≡ Truncated
  pub progress : IsProgress p text at

-- what the fields of a feed represent
abbrev pub state_of : Profile → Stage → Progress → List ℕ → StreamState
state_of p (Open f) at text = more p text
state_of p Done at text = done (aces_of at.seen (after_word text))
state_of p (Refused f) at text = refused f

-- what holds for the fields of a feed
abbrev pub IsFeed : Profile → Stage → Progress → List ℕ → Type 0
IsFeed p (Open f) at text = IsUnfinished p f at text
IsFeed p Done at text = IsOwned at.seen at.weight (after_word text)
IsFeed p (Refused f) at text = Unit {0}

-- a feed that has taken exactly this front of a piece so far, and answers More
abbrev pub HasTaken : StreamState → List ℕ → StreamState → Type 0
HasTaken (more p s) front new = new ≡ more p (s ++ front)
HasTaken (done list) front new = (new ≡ done list) × (front ≡ [])
HasTaken (refused f) front new = (new ≡ refused f) × (front ≡ [])
