-- What the laws of the XDR layout say (RFC 4506, over the types of RFC 8881, section 6.2.1), and those of the texts,
-- which are this library's own.
use Rattle.std.specs.Prelude.{ℕ, List, [], ◌++◌, map}
use Rattle.std.specs.List.{concat, enumerate_from, filter, flat_map, range_with_len}
use Rattle.acl_perm.specs.Bits.{has_bit}
use Rattle.acl_perm.specs.Lines.{IsTextPlace}
use Rattle.acl_perm.specs.Profile.{Profile}
use Rattle.acl_nfs4.specs.Ace.{Ace}
use Rattle.acl_nfs4.specs.Spelling.{Xdr}
use Rattle.acl_nfs4.specs.Stream.{Feeds, FeedsEach, SameOrFails, StreamState, more, together}
use Rattle.acl_nfs4.specs.declared.feed.fed.Fed.{Fed}
use Rattle.acl_nfs4.specs.declared.text.fault.AceTextFault.{AceTextFault}
use Rattle.acl_nfs4.specs.declared.text.fault.AceTextFault.TheVariants.{TooManyAces, Fields, AceType, Flag, Mask, TooHeavy, WhoLength, WhoUtf8, WhoControl, SpecialWho, Memory}

-- the text is a beginning of the spelling of some accepted list
abbrev pub BeginsSpelling : Profile → List ℕ → Type 0
BeginsSpelling p text = (list : List Ace) × (rest : List ℕ) × Xdr p list (text ++ rest)

-- pieces that are fed one after the other to a new feed have the same answer as all of them fed at once, and the feed
-- represents the same then, unless memory runs out in one of the two cases
abbrev pub FedAsAtOnce : Profile → List (List ℕ) → Type 0
FedAsAtOnce p pieces = (answers : List Fed) (new : StreamState) (once : Fed) (now : StreamState)
    → FeedsEach (more p []) pieces answers new → Feeds (more p []) (concat pieces) once now
    → SameOrFails (together pieces answers) new once now

-- the bits of a mask of 32 bits, in ascending order
abbrev pub bits_of : ℕ → List ℕ
bits_of mask = filter (has_bit mask) (range_with_len 0 32)

-- the pairs of the place of an ACE and a bit that its mask has
abbrev pub pairs_at : ℕ × Ace → List (ℕ × ℕ)
pairs_at placed = map (λ bit. (placed.0, bit)) (bits_of placed.1.mask)

-- the pairs of a place in the list and a bit that the ACE there has
abbrev pub pairs_of : List Ace → List (ℕ × ℕ)
pairs_of list = flat_map pairs_at (enumerate_from 0 list)

-- the line and the column of a fault are a place in the text; `Memory` has no place
abbrev pub IsInAceText : List ℕ → AceTextFault → Type 0
IsInAceText text (TooManyAces line column) = IsTextPlace text line column
IsInAceText text (Fields line column) = IsTextPlace text line column
IsInAceText text (AceType line column) = IsTextPlace text line column
IsInAceText text (Flag line column) = IsTextPlace text line column
IsInAceText text (Mask line column) = IsTextPlace text line column
IsInAceText text (TooHeavy line column) = IsTextPlace text line column
IsInAceText text (WhoLength line column) = IsTextPlace text line column
IsInAceText text (WhoUtf8 line column) = IsTextPlace text line column
IsInAceText text (WhoControl line column) = IsTextPlace text line column
IsInAceText text (SpecialWho line column) = IsTextPlace text line column
IsInAceText text Memory = Unit {0}
